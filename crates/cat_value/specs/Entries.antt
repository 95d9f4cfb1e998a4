-- What the numbers in types and values name.
use Rattle.std.specs.Prelude.{ℕ, Bool, false, List, Option, None, Some, slice_get}
use Rattle.cat_value.specs.declared.ty.Ty.{Ty}
use Rattle.cat_value.specs.declared.declaration.Field.{Field}
use Rattle.cat_value.specs.declared.declaration.Structure.{Structure}
use Rattle.cat_value.specs.declared.declaration.Case.{Case}
use Rattle.cat_value.specs.declared.declaration.Enumeration.{Enumeration}
use Rattle.cat_value.specs.declared.decls.Decls.{Decls}

-- whether a test passes what is there
abbrev pub some_passes : {A : Type 0} → (A → Bool) → Option A → Bool
some_passes test None = false
some_passes test (Some x) = test x

-- the fields of a structure, where there is one
abbrev pub fields_in : Option Structure → Option (List Field)
fields_in None = None
fields_in (Some s) = Some s.fields

-- the fields of the structure of that number, where there is one
abbrev pub fields_of : Decls → ℕ → Option (List Field)
fields_of ds n = fields_in (slice_get ds.structures n)

-- the content of a case, or that there is none, where there is such a case
abbrev pub content_in : Option Case → Option (Option Ty)
content_in None = None
content_in (Some c) = Some c.content

-- the content of case k of an enumeration, or that there is none, where there is such a case
abbrev pub case_in : ℕ → Option Enumeration → Option (Option Ty)
case_in k None = None
case_in k (Some e) = content_in (slice_get e.cases k)

-- the content, or that there is none, of case k of the enumeration of that number, where there is such a case
abbrev pub content_of : Decls → ℕ → ℕ → Option (Option Ty)
content_of ds n k = case_in k (slice_get ds.enumerations n)
