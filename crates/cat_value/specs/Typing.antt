-- Which values are values of which types.
use Rattle.std.specs.Prelude.{ℕ, Bool, true, false, ◌&&◌, nat_le, List, [], ◌∷◌, length, Option, None, Some}
use Rattle.std.specs.List.{list_all}
use Rattle.std.specs.Cmp.Lexicographic.{pointwise}
use Rattle.cat_num.specs.Whole.{largest}
use Rattle.cat_value.specs.declared.ty.Ty.{Ty}
use Rattle.cat_value.specs.declared.ty.Ty.TheOpen.{Ty-F}
use Rattle.cat_value.specs.declared.ty.Ty.TheViews.{out-Ty}
use Rattle.cat_value.specs.declared.value.Value.{Value}
use Rattle.cat_value.specs.declared.value.Value.TheOpen.{Value-F}
use Rattle.cat_value.specs.declared.value.Value.TheFolds.{fold-Value}
use Rattle.cat_value.specs.declared.declaration.Field.{Field}
use Rattle.cat_value.specs.declared.decls.Decls.{Decls}
use Rattle.cat_value.specs.Declarations.{is_declared, is_boolean}
use Rattle.cat_value.specs.Entries.{some_passes, fields_of, content_of}
use Rattle.cat_value.specs.Flat.{integer_typed, decimal_typed, money_typed, date_typed, duration_typed}

-- the most elements that a list has
abbrev pub most_elements : ℕ
most_elements = largest

-- whether the number in a type, where it has one, names an entry of the declarations
abbrev pub is_type : Decls → Ty → Bool
is_type ds t = is_declared ds.structures ds.enumerations t

-- at most M elements of a declared type, each of that type
abbrev pub list_typed : Decls → List (Ty → Bool) → Ty-F Ty → Bool
list_typed ds parts (Ty-F.List t) =
    is_type ds t && nat_le (length parts) most_elements && list_all (λ part. part t) parts
list_typed ds parts _ = false

-- one value for each field, of its type
abbrev pub structure_typed : Decls → List (Ty → Bool) → Ty-F Ty → Bool
structure_typed ds parts (Ty-F.Structure n) = some_passes (pointwise (λ part f. part f.ty) parts) (fields_of ds n)
structure_typed ds parts _ = false

-- whether a part is there exactly where a content is, and has its type
abbrev pub part_typed : Option (Ty → Bool) → Option Ty → Bool
part_typed None None = true
part_typed None (Some t) = false
part_typed (Some part) None = false
part_typed (Some part) (Some t) = part t

-- a case of the enumeration, and its content exactly where it has one
abbrev pub case_typed : Decls → ℕ → Option (Ty → Bool) → Ty-F Ty → Bool
case_typed ds k part (Ty-F.Enumeration n) = some_passes (part_typed part) (content_of ds n k)
case_typed ds k part _ = false

-- one level of a value, with the test of each part in its place, against one level of a type
abbrev pub level_typed : Decls → Value-F (Ty → Bool) → Ty-F Ty → Bool
level_typed ds (Value-F.Boolean b) t = is_boolean t
level_typed ds (Value-F.Integer n) t = integer_typed n t
level_typed ds (Value-F.Decimal f) t = decimal_typed f t
level_typed ds (Value-F.Money n) t = money_typed n t
level_typed ds (Value-F.Date day) t = date_typed day t
level_typed ds (Value-F.Duration span) t = duration_typed span t
level_typed ds (Value-F.List parts) t = list_typed ds parts t
level_typed ds (Value-F.Structure parts) t = structure_typed ds parts t
level_typed ds (Value-F.Case k part) t = case_typed ds k part t

-- whether a value has a type, where its parts tell of which types they are
abbrev pub value_typed : Decls → Value-F (Ty → Bool) → Ty → Bool
value_typed ds v t = level_typed ds v (out-Ty t)

-- whether a value is one of a type
unfoldable pub has_type : Decls → Value → Ty → Bool
has_type ds = fold-Value (Ty → Bool) (value_typed ds)

-- whether each of some values is one of a type
abbrev pub all_have_type : Decls → List Value → Ty → Bool
all_have_type ds [] t = true
all_have_type ds (v ∷ vs) t = has_type ds v t && all_have_type ds vs t

-- whether some values are the elements of a list of a type
abbrev pub elements_typed : Decls → List Value → Ty → Bool
elements_typed ds vs t = is_type ds t && nat_le (length vs) most_elements && all_have_type ds vs t

-- whether there is one value for each field, of its type
abbrev pub fields_have_types : Decls → List Value → List Field → Bool
fields_have_types ds [] [] = true
fields_have_types ds [] (f ∷ fs) = false
fields_have_types ds (v ∷ vs) [] = false
fields_have_types ds (v ∷ vs) (f ∷ fs) = has_type ds v f.ty && fields_have_types ds vs fs

-- whether a content is there exactly where the case has one, and is of its type
abbrev pub content_has_type : Decls → Option Value → Option Ty → Bool
content_has_type ds None None = true
content_has_type ds None (Some t) = false
content_has_type ds (Some v) None = false
content_has_type ds (Some v) (Some t) = has_type ds v t

-- whether some values are those of the fields of the structure of that number
abbrev pub is_structure : Decls → ℕ → List Value → Bool
is_structure ds n vs = some_passes (fields_have_types ds vs) (fields_of ds n)

-- whether case k with a content, or with none, is one of the enumeration of that number
abbrev pub is_case : Decls → ℕ → ℕ → Option Value → Bool
is_case ds n k content = some_passes (content_has_type ds content) (content_of ds n k)
