-- The words of the laws: how high values are, and what the invariant of the declarations says.
use Rattle.std.specs.Prelude.{◌≡◌, ℕ, ◌+◌, ◌<◌, ◌≤◌, max, false, IsTrue, List, [], ◌∷◌, length, Option, None, Some}
use Rattle.std.specs.Prelude.{slice_get}
use Rattle.cat_pos.specs.declared.limits.TheConstants.{ENTRIES_BOUND}
use Rattle.cat_value.specs.declared.ty.Ty.{Ty}
use Rattle.cat_value.specs.declared.ty.Ty.TheOpen.{Ty-F}
use Rattle.cat_value.specs.declared.ty.Ty.TheVariants.{Structure as structure, Enumeration as enumeration}
use Rattle.cat_value.specs.declared.ty.Ty.TheVariants.{Boolean as boolean}
use Rattle.cat_value.specs.declared.value.Value.{Value}
use Rattle.cat_value.specs.declared.value.Value.TheOpen.{Value-F}
use Rattle.cat_value.specs.declared.value.Value.TheFolds.{fold-Value}
use Rattle.cat_value.specs.declared.declaration.Field.{Field}
use Rattle.cat_value.specs.declared.declaration.Structure.{Structure}
use Rattle.cat_value.specs.declared.declaration.Case.{Case}
use Rattle.cat_value.specs.declared.declaration.Enumeration.{Enumeration}
use Rattle.cat_value.specs.declared.declaration.Kind.TheVariants.{Called}
use Rattle.cat_value.specs.declared.declaration.ItemDecl.{ItemDecl}
use Rattle.cat_value.specs.declared.declaration.Scope.{Scope}
use Rattle.cat_value.specs.declared.decls.Decls.{Decls}
use Rattle.cat_value.specs.Heights.{height_to, highest_part}
use Rattle.cat_order.specs.Order.{IsOrder}
use Rattle.cat_order.specs.Cycle.{IsOnCycle}
use Rattle.cat_value.specs.Dependencies.{type_dependencies}
use Rattle.cat_value.specs.Declarations.{highest}
use Rattle.cat_value.specs.Typing.{is_type}

-- the height of a type, where 65 stands for each height above 64
abbrev pub height_of : Decls → Ty → ℕ
height_of ds t = height_to ds.structures ds.enumerations highest t

-- the height of a type's highest part, 0 where it has none
abbrev pub part_height : Decls → Ty-F Ty → ℕ
part_height ds y = highest_part ds.structures ds.enumerations (height_of ds) y

-- the greatest of some heights, 0 where there is none
abbrev pub greatest : List ℕ → ℕ
greatest [] = 0
greatest (h ∷ hs) = max h (greatest hs)

-- one more than the height of the content, where there is one
abbrev pub case_height : Option ℕ → ℕ
case_height None = 1
case_height (Some part) = 1 + part

-- one level of a value, with the height of each part in its place
abbrev pub height_at : Value-F ℕ → ℕ
height_at (Value-F.List parts) = 1 + greatest parts
height_at (Value-F.Structure parts) = 1 + greatest parts
height_at (Value-F.Case k part) = case_height part
height_at _ = 1

-- the height of a value: 1 without parts, else one more than that of its highest part
unfoldable pub value_height : Value → ℕ
value_height = fold-Value ℕ height_at

-- what each declared structure keeps to
pub record IsStructure (ds : Decls) (n : ℕ) (s : Structure) : Type 0 where
  pub has_field : 0 < length s.fields
  pub counted : length s.fields < ENTRIES_BOUND
  pub declared : (k : ℕ) (f : Field) → slice_get s.fields k ≡ Some f → IsTrue (is_type ds f.ty)
  pub low : height_of ds (structure n) ≤ highest

-- what each declared enumeration keeps to
pub record IsEnumeration (ds : Decls) (n : ℕ) (e : Enumeration) : Type 0 where
  pub has_case : 0 < length e.cases
  pub counted : length e.cases < ENTRIES_BOUND
  pub declared : (k : ℕ) (c : Case) (t : Ty) → slice_get e.cases k ≡ Some c → c.content ≡ Some t → IsTrue (is_type ds t)
  pub low : height_of ds (enumeration n) ≤ highest

-- what each declared item keeps to
pub record IsItem (ds : Decls) (item : ItemDecl) : Type 0 where
  pub declared : IsTrue (is_type ds item.ty)
  pub low : height_of ds item.ty ≤ highest
  pub params_declared : (k : ℕ) (t : Ty) → slice_get item.params k ≡ Some t → IsTrue (is_type ds t)
  pub params_low : (k : ℕ) (t : Ty) → slice_get item.params k ≡ Some t → height_of ds t ≤ highest
  pub called : (scope : ℕ) → item.kind ≡ Called scope → scope < length ds.scopes
  pub called_boolean : (scope : ℕ) → item.kind ≡ Called scope → item.ty ≡ boolean
  pub called_plain : (scope : ℕ) → item.kind ≡ Called scope → item.condition ≡ false

-- what all declarations keep to
pub record AreSound (ds : Decls) : Type 0 where
  pub structures : (n : ℕ) (s : Structure) → slice_get ds.structures n ≡ Some s → IsStructure ds n s
  pub enumerations : (n : ℕ) (e : Enumeration) → slice_get ds.enumerations n ≡ Some e → IsEnumeration ds n e
  pub ordered : (listed : List ℕ) × IsOrder (type_dependencies ds.structures ds.enumerations) listed
  pub acyclic : (n : ℕ) → ¬ IsOnCycle (type_dependencies ds.structures ds.enumerations) n
  pub structures_counted : length ds.structures < ENTRIES_BOUND
  pub enumerations_counted : length ds.enumerations < ENTRIES_BOUND
  pub scopes_counted : length ds.scopes < ENTRIES_BOUND
  pub items_counted : (n : ℕ) (scope : Scope) → slice_get ds.scopes n ≡ Some scope → length scope.items < ENTRIES_BOUND
  pub items : (n k : ℕ) (scope : Scope) (item : ItemDecl) → slice_get ds.scopes n ≡ Some scope → slice_get scope.items k
      ≡ Some item → IsItem ds item
