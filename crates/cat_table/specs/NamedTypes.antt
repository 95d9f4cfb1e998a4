-- Structures and enumerations, as the types that have names.
use Rattle.std.specs.Prelude.{ℕ, List, [], Option, Some, None, slice_get}
use Rattle.cat_value.specs.declared.ty.Ty.{Ty}
use Rattle.cat_value.specs.declared.ty.Ty.TheOpen.{Ty-F}
use Rattle.cat_value.specs.declared.ty.Ty.TheViews.{out-Ty}
use Rattle.cat_value.specs.declared.decls.Decls.{Decls}
use Rattle.cat_value.specs.declared.declaration.Field.{Field}
use Rattle.cat_value.specs.declared.declaration.Case.{Case}
use Rattle.cat_value.specs.declared.declaration.Enumeration.{Enumeration}
use Rattle.cat_value.specs.declared.declaration.ItemDecl.{ItemDecl}
use Rattle.cat_value.specs.declared.declaration.Kind.{Kind}
use Rattle.cat_value.specs.declared.declaration.Kind.TheVariants.{Called}
use Rattle.cat_value.specs.Entries.{fields_of}
use Rattle.cat_scope.specs.Fitting.{field_at}
use Rattle.cat_scope.specs.Names.{output_at}
use Rattle.cat_table.specs.declared.named_type.NamedType.{NamedType}
use Rattle.cat_table.specs.declared.named_type.NamedType.TheVariants as of_type

-- the structure or the enumeration that a type is, by its form
abbrev pub named_in : Ty-F Ty → Option NamedType
named_in (Ty-F.Structure n) = Some (of_type.Structure n)
named_in (Ty-F.Enumeration n) = Some (of_type.Enumeration n)
named_in t = None

-- the structure or the enumeration that a type is
abbrev pub named : Ty → Option NamedType
named t = named_in (out-Ty t)

-- the same, where there is a type
abbrev pub named_or : Option Ty → Option NamedType
named_or None = None
named_or (Some t) = named t

-- the same of the type of an item
abbrev pub item_named : Option ItemDecl → Option NamedType
item_named None = None
item_named (Some item) = named item.ty

-- output k of the scope that an item calls, by its kind
abbrev pub output_by : Decls → ℕ → Kind → Option ItemDecl
output_by ds k (Called scope) = output_at ds scope k
output_by ds k kind = None

-- output k of the scope that an item calls
abbrev pub called_output : Decls → ℕ → Option ItemDecl → Option ItemDecl
called_output ds k None = None
called_output ds k (Some item) = output_by ds k item.kind

-- field k of a structure
abbrev pub field_in : Decls → ℕ → Option NamedType → Option Field
field_in ds k None = None
field_in ds k (Some (of_type.Enumeration n)) = None
field_in ds k (Some (of_type.Structure n)) = field_at (fields_of ds n) k

-- the structure or the enumeration that a field's type is
abbrev pub field_named : Option Field → Option NamedType
field_named None = None
field_named (Some f) = named f.ty

-- the name of a field
abbrev pub field_name : Option Field → List ℕ
field_name None = []
field_name (Some f) = f.name

-- case k of an enumeration, where there is one
abbrev pub case_at : ℕ → Option Enumeration → Option Case
case_at k None = None
case_at k (Some e) = slice_get e.cases k

-- case k of an enumeration
abbrev pub case_in : Decls → ℕ → Option NamedType → Option Case
case_in ds k None = None
case_in ds k (Some (of_type.Structure n)) = None
case_in ds k (Some (of_type.Enumeration n)) = case_at k (slice_get ds.enumerations n)

-- the structure or the enumeration that a case's content is
abbrev pub content_named : Option Case → Option NamedType
content_named None = None
content_named (Some c) = named_or c.content

-- the name of a case
abbrev pub case_name : Option Case → List ℕ
case_name None = []
case_name (Some c) = c.name
