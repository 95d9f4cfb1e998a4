-- How many parts an input has.
use Rattle.std.specs.Prelude.{ℕ, zero, suc, ◌+◌, List, [], ◌∷◌, Option, None, Some, slice_get, if◌then◌else◌}
use Rattle.cat_value.specs.declared.declaration.Case.{Case}
use Rattle.cat_value.specs.declared.declaration.Enumeration.{Enumeration}
use Rattle.cat_value.specs.declared.declaration.Field.{Field}
use Rattle.cat_value.specs.declared.declaration.ItemDecl.{ItemDecl}
use Rattle.cat_value.specs.declared.declaration.Structure.{Structure}
use Rattle.cat_value.specs.declared.decls.Decls.{Decls}
use Rattle.cat_value.specs.declared.ty.Ty.{Ty}
use Rattle.cat_value.specs.declared.ty.Ty.TheOpen.{Ty-F}
use Rattle.cat_value.specs.declared.ty.Ty.TheViews.{out-Ty}
use Rattle.cat_value.specs.Declarations.{highest}
use Rattle.cat_value.specs.Inputs.{must_be_given}

-- the parts of some fields, with those of each type
abbrev pub parts_of_fields : (Ty → ℕ) → List Field → ℕ
parts_of_fields parts [] = 0
parts_of_fields parts (f ∷ fs) = parts f.ty + parts_of_fields parts fs

-- the parts of a case's content, where it has one
abbrev pub parts_of_content : (Ty → ℕ) → Option Ty → ℕ
parts_of_content parts None = 0
parts_of_content parts (Some t) = parts t

-- some cases, each with the parts of its content
abbrev pub parts_of_cases : (Ty → ℕ) → List Case → ℕ
parts_of_cases parts [] = 0
parts_of_cases parts (c ∷ cs) = 1 + parts_of_content parts c.content + parts_of_cases parts cs

-- the parts of the fields, where there is such a structure
abbrev pub parts_of_structure : (Ty → ℕ) → Option Structure → ℕ
parts_of_structure parts None = 0
parts_of_structure parts (Some s) = parts_of_fields parts s.fields

-- the cases and their parts, where there is such an enumeration
abbrev pub parts_of_enumeration : (Ty → ℕ) → Option Enumeration → ℕ
parts_of_enumeration parts None = 0
parts_of_enumeration parts (Some e) = parts_of_cases parts e.cases

-- the parts below a type of that form: a list is empty, and each case of an enumeration counts
abbrev pub parts_below : Decls → (Ty → ℕ) → Ty-F Ty → ℕ
parts_below ds parts (Ty-F.Structure n) = parts_of_structure parts (slice_get ds.structures n)
parts_below ds parts (Ty-F.Enumeration n) = parts_of_enumeration parts (slice_get ds.enumerations n)
parts_below ds parts _ = 0

-- how many parts the first k levels of a type have: the type itself, and those below it
unfoldable pub parts_to : Decls → ℕ → Ty → ℕ
parts_to ds zero t = 0
parts_to ds (suc k) t = 1 + parts_below ds (parts_to ds k) (out-Ty t)

-- the parts of what an item is given
abbrev pub parts_for : Decls → ItemDecl → ℕ
parts_for ds item = if must_be_given item.kind then parts_to ds highest item.ty else 0

-- the parts of what some items are given
abbrev pub parts_given : Decls → List ItemDecl → ℕ
parts_given ds [] = 0
parts_given ds (item ∷ items) = parts_for ds item + parts_given ds items
