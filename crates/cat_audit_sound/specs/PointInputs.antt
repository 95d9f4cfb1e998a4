-- The input that points of free terms are: what has the path of a free term has the term's point, and all else its
-- default.
use Rattle.std.specs.Prelude.{ℕ, zero, suc, ◌+◌, ◌==◌, ◌&&◌, Bool, false, List, [], ◌∷◌, ◌++◌}
use Rattle.std.specs.Prelude.{Option, Some, None, if◌then◌else◌}
use Rattle.std.specs.Cmp.Lexicographic.{pointwise}
use Rattle.cat_value.specs.declared.decls.Decls.{Decls}
use Rattle.cat_value.specs.declared.declaration.Field.{Field}
use Rattle.cat_value.specs.declared.declaration.ItemDecl.{ItemDecl}
use Rattle.cat_value.specs.declared.ty.Ty.{Ty}
use Rattle.cat_value.specs.declared.ty.Ty.TheOpen.{Ty-F}
use Rattle.cat_value.specs.declared.ty.Ty.TheViews.{out-Ty}
use Rattle.cat_value.specs.declared.value.Value.{Value}
use Rattle.cat_value.specs.declared.value.Value.TheVariants.{Boolean, Integer, Decimal, Money, Date}
use Rattle.cat_value.specs.declared.value.Value.TheViews as value
use Rattle.cat_value.specs.Declarations.{highest}
use Rattle.cat_value.specs.Defaults.{default_of}
use Rattle.cat_value.specs.Entries.{fields_of, content_of}
use Rattle.cat_value.specs.Inputs.{must_be_given}
use Rattle.cat_region.specs.declared.point.Point.{Point}
use Rattle.cat_region.specs.declared.point.Point.TheVariants as point
use Rattle.cat_region.specs.Regions.{Valuation}
use Rattle.cat_scope.specs.Names.{scope_items}
use Rattle.cat_guard.specs.declared.table.InputPath.{InputPath}
use Rattle.cat_guard.specs.declared.table.Term.{Term}
use Rattle.cat_guard.specs.declared.table.Table.{Table}

-- ---- the points of paths

-- whether a term, by the path that it has or hasn't, is the part at a path
abbrev pub is_at : InputPath → Option InputPath → Bool
is_at path None = false
is_at path (Some p) = p.item == path.item && pointwise (λ a b. a == b) p.fields path.fields

-- the point of the first of the terms from number n on that is the part at a path
abbrev pub point_from : Valuation → ℕ → List Term → InputPath → Option Point
point_from v n [] path = None
point_from v n (term ∷ terms) path = if is_at path term.path then Some (v n) else point_from v (n + 1) terms path

-- an input variable
abbrev pub variable : ℕ → InputPath
variable item = record { item = item; fields = [] }

-- a field of the part at a path
abbrev pub field_of : InputPath → ℕ → InputPath
field_of path k = record { item = path.item; fields = path.fields ++ k ∷ [] }

-- ---- values

-- a case with the default of its content, where there is such a case
abbrev pub case_with : Decls → ℕ → Option (Option Ty) → Option Value
case_with ds k None = None
case_with ds k (Some None) = Some (value.Case k None)
case_with ds k (Some (Some t)) = Some (value.Case k (Some (default_of ds t)))

-- the value of a type in which cuts see a point: of a case the one with the default of its content
abbrev pub value_at : Decls → Ty-F Ty → Point → Option Value
value_at ds Ty-F.Boolean (point.Truth b) = Some (Boolean b)
value_at ds Ty-F.Integer (point.Whole n) = Some (Integer n)
value_at ds Ty-F.Decimal (point.Decimal f) = Some (Decimal f)
value_at ds Ty-F.Money (point.Money cents) = Some (Money cents)
value_at ds Ty-F.Date (point.Day day) = Some (Date day)
value_at ds (Ty-F.Enumeration n) (point.Case k) = case_with ds k (content_of ds n k)
value_at ds t x = None

-- the value that there is, or the default of the type
abbrev pub or_default : Decls → Ty → Option Value → Value
or_default ds t None = default_of ds t
or_default ds t (Some v) = v

-- the value of a type that has a point, and the default where none is given or the type has no such point
abbrev pub with_point : Decls → Ty → Option Point → Value
with_point ds t None = default_of ds t
with_point ds t (Some x) = or_default ds t (value_at ds (out-Ty t) x)

-- each field from number k on, at its path
abbrev pub fields_from : (InputPath → Ty → Value) → InputPath → ℕ → List Field → List Value
fields_from part path k [] = []
fields_from part path k (f ∷ fs) = part (field_of path k) f.ty ∷ fields_from part path (k + 1) fs

-- a structure with these fields
abbrev pub structure_of : (InputPath → Ty → Value) → InputPath → Option (List Field) → Value
structure_of part path None = value.Structure []
structure_of part path (Some fs) = value.Structure (fields_from part path 0 fs)

-- the value at a path of a type of that form, with that of each part: a structure is made of its parts, and anything
-- else has the point of its path, where that has one
abbrev pub part_in : Decls → (InputPath → Option Point) → (InputPath → Ty → Value) → InputPath → Ty → Ty-F Ty → Value
part_in ds points part path t (Ty-F.Structure n) = structure_of part path (fields_of ds n)
part_in ds points part path t y = with_point ds t (points path)

-- the value at a path of a type that is at most k high
unfoldable pub part_to : Decls → (InputPath → Option Point) → ℕ → InputPath → Ty → Value
part_to ds points zero path t = Boolean false
part_to ds points (suc k) path t = part_in ds points (part_to ds points k) path t (out-Ty t)

-- ---- inputs

-- what an item is given: a value where it must be given, and else none
abbrev pub given_for : Decls → (InputPath → Option Point) → ℕ → ItemDecl → Option Value
given_for ds points n item =
    if must_be_given item.kind then Some (part_to ds points highest (variable n) item.ty) else None

-- what items from number n on are given
abbrev pub given_from : Decls → (InputPath → Option Point) → ℕ → List ItemDecl → List (Option Value)
given_from ds points n [] = []
given_from ds points n (item ∷ items) = given_for ds points n item ∷ given_from ds points (n + 1) items

-- the input of a table's scope in which the free terms have the points of a valuation
abbrev pub input_at : Decls → Table → Valuation → List (Option Value)
input_at ds table v = given_from ds (point_from v 0 table.terms) 0 (scope_items ds table.scope)
