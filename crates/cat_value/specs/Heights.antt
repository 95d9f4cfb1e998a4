-- How high types are.
use Rattle.std.specs.Prelude.{ℕ, zero, suc, ◌+◌, max, List, [], ◌∷◌, Option, None, Some, slice_get}
use Rattle.cat_value.specs.declared.ty.Ty.{Ty}
use Rattle.cat_value.specs.declared.ty.Ty.TheOpen.{Ty-F}
use Rattle.cat_value.specs.declared.ty.Ty.TheViews.{out-Ty}
use Rattle.cat_value.specs.declared.declaration.Field.{Field}
use Rattle.cat_value.specs.declared.declaration.Structure.{Structure}
use Rattle.cat_value.specs.declared.declaration.Case.{Case}
use Rattle.cat_value.specs.declared.declaration.Enumeration.{Enumeration}

-- the height of the highest of some fields, 0 where there is none
abbrev pub highest_field : (Ty → ℕ) → List Field → ℕ
highest_field height [] = 0
highest_field height (f ∷ fs) = max (height f.ty) (highest_field height fs)

-- the height of a case's content, 0 where it has none
abbrev pub content_height : (Ty → ℕ) → Option Ty → ℕ
content_height height None = 0
content_height height (Some t) = height t

-- the height of the highest content of some cases, 0 where there is none
abbrev pub highest_content : (Ty → ℕ) → List Case → ℕ
highest_content height [] = 0
highest_content height (c ∷ cs) = max (content_height height c.content) (highest_content height cs)

-- the height of the highest field, where there is such a structure
abbrev pub structure_parts : (Ty → ℕ) → Option Structure → ℕ
structure_parts height None = 0
structure_parts height (Some s) = highest_field height s.fields

-- the height of the highest content, where there is such an enumeration
abbrev pub enumeration_parts : (Ty → ℕ) → Option Enumeration → ℕ
enumeration_parts height None = 0
enumeration_parts height (Some e) = highest_content height e.cases

-- the height of a type's highest part, 0 where it has none
abbrev pub highest_part : List Structure → List Enumeration → (Ty → ℕ) → Ty-F Ty → ℕ
highest_part ss es height (Ty-F.List t) = height t
highest_part ss es height (Ty-F.Structure n) = structure_parts height (slice_get ss n)
highest_part ss es height (Ty-F.Enumeration n) = enumeration_parts height (slice_get es n)
highest_part ss es height _ = 0

-- the height of a type, which is one more than that of its highest part; k + 1 stands for each height above k
unfoldable pub height_to : List Structure → List Enumeration → ℕ → Ty → ℕ
height_to ss es zero t = 1
height_to ss es (suc k) t = 1 + highest_part ss es (height_to ss es k) (out-Ty t)
