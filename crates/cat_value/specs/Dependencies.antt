-- Which structures and enumerations stand in the declarations of which.
use Rattle.std.specs.Prelude.{ℕ, ◌+◌, Bool, List, [], ◌∷◌, ◌++◌, length, map, Option, None, Some}
use Rattle.std.specs.Option.{is_some}
use Rattle.cat_order.specs.Computed.{order_of}
use Rattle.cat_value.specs.declared.ty.Ty.{Ty}
use Rattle.cat_value.specs.declared.ty.Ty.TheOpen.{Ty-F}
use Rattle.cat_value.specs.declared.ty.Ty.TheFolds.{fold-Ty}
use Rattle.cat_value.specs.declared.declaration.Field.{Field}
use Rattle.cat_value.specs.declared.declaration.Structure.{Structure}
use Rattle.cat_value.specs.declared.declaration.Case.{Case}
use Rattle.cat_value.specs.declared.declaration.Enumeration.{Enumeration}

-- one level of a type, with what its part names in the place of that; enumerations are numbered behind the structures
abbrev pub names_at : ℕ → Ty-F (List ℕ) → List ℕ
names_at structures (Ty-F.List part) = part
names_at structures (Ty-F.Structure n) = n ∷ []
names_at structures (Ty-F.Enumeration n) = (structures + n) ∷ []
names_at structures _ = []

-- what a type names, through lists too: a structure, an enumeration, or neither
unfoldable pub named_by : ℕ → Ty → List ℕ
named_by structures = fold-Ty (List ℕ) (names_at structures)

-- what the fields of a structure name
abbrev pub named_by_fields : ℕ → List Field → List ℕ
named_by_fields structures [] = []
named_by_fields structures (f ∷ fs) = named_by structures f.ty ++ named_by_fields structures fs

-- what the content of a case names, where it has one
abbrev pub named_by_content : ℕ → Option Ty → List ℕ
named_by_content structures None = []
named_by_content structures (Some t) = named_by structures t

-- what the contents of the cases of an enumeration name
abbrev pub named_by_cases : ℕ → List Case → List ℕ
named_by_cases structures [] = []
named_by_cases structures (c ∷ cs) = named_by_content structures c.content ++ named_by_cases structures cs

-- for each structure, and behind these for each enumeration, the ones that it depends on
abbrev pub type_dependencies : List Structure → List Enumeration → List (List ℕ)
type_dependencies ss es =
    map (λ (s : Structure). named_by_fields (length ss) s.fields) ss
    ++ map (λ (e : Enumeration). named_by_cases (length ss) e.cases) es

-- structures and enumerations have an order in which each stands behind those that it depends on
unfoldable pub are_ordered : List Structure → List Enumeration → Bool
are_ordered ss es = is_some (order_of (type_dependencies ss es))
