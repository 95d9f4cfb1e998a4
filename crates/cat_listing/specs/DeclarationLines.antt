-- The lines of declarations.
use Rattle.std.specs.Prelude.{ℕ, List, [], ◌∷◌, ◌++◌, Option, Some, None, slice_get, codes, decimal, if◌then◌else◌}
use Rattle.cat_value.specs.declared.ty.Ty.{Ty}
use Rattle.cat_value.specs.declared.declaration.Field.{Field}
use Rattle.cat_value.specs.declared.declaration.Structure.{Structure}
use Rattle.cat_value.specs.declared.declaration.Case.{Case}
use Rattle.cat_value.specs.declared.declaration.Enumeration.{Enumeration}
use Rattle.cat_value.specs.declared.declaration.Kind.{Kind}
use Rattle.cat_value.specs.declared.declaration.Kind.TheVariants as kind
use Rattle.cat_value.specs.declared.declaration.ItemDecl.{ItemDecl}
use Rattle.cat_value.specs.declared.declaration.Scope.{Scope}
use Rattle.cat_value.specs.declared.decls.Decls.{Decls}
use Rattle.cat_listing.specs.Texts.{Text, lines_of, place_text, name_at, type_text}

-- ---- structures and enumerations

-- a field with its type
unfoldable pub field_line : Decls → Field → Text
field_line ds f = codes "field " ++ (f.name ++ (codes " " ++ (type_text ds f.ty ++ codes "\n")))

-- a word with a name
unfoldable pub named_line : Text → Text → Text
named_line word name = word ++ (name ++ codes "\n")

-- a structure with its fields
unfoldable pub structure_lines : Decls → Structure → Text
structure_lines ds s = named_line (codes "structure ") s.name ++ lines_of (field_line ds) s.fields

-- a case's content, where it has one
abbrev pub content_text : Decls → Option Ty → Text
content_text ds None = []
content_text ds (Some t) = codes " " ++ type_text ds t

-- a case with its content
unfoldable pub case_line : Decls → Case → Text
case_line ds c = codes "case " ++ (c.name ++ (content_text ds c.content ++ codes "\n"))

-- an enumeration with its cases
unfoldable pub enumeration_lines : Decls → Enumeration → Text
enumeration_lines ds e = named_line (codes "enumeration ") e.name ++ lines_of (case_line ds) e.cases

-- ---- scopes

-- the word for an item's kind
abbrev pub kind_text : Kind → Text
kind_text kind.Input = codes "input"
kind_text kind.Output = codes "output"
kind_text kind.Internal = codes "internal"
kind_text kind.Context = codes "context"
kind_text kind.InputOutput = codes "inputoutput"
kind_text kind.ContextOutput = codes "contextoutput"
kind_text (kind.Called scope) = codes "called"

-- the type of a parameter behind another one
unfoldable pub param_text : Decls → Ty → Text
param_text ds t = codes ", " ++ type_text ds t

-- the types of parameters, where there are some
abbrev pub params_text : Decls → List Ty → Text
params_text ds [] = []
params_text ds (t ∷ ts) = codes " of " ++ (type_text ds t ++ lines_of (param_text ds) ts)

-- what a variable is: a condition, or of a type
abbrev pub variable_text : Decls → ItemDecl → Text
variable_text ds item = if item.condition then codes "condition" else type_text ds item.ty

-- the same with its parameters
abbrev pub defined_text : Decls → ItemDecl → Text
defined_text ds item = variable_text ds item ++ params_text ds item.params

-- what an item is: the scope that it calls, or the same
abbrev pub what_text : Decls → ItemDecl → Kind → Text
what_text ds item (kind.Called scope) = name_at (λ (s : Scope). s.name) (slice_get ds.scopes scope)
what_text ds item _ = defined_text ds item

-- an item of a scope: its name, its kind, its place and what it is
unfoldable pub item_line : Decls → ItemDecl → Text
item_line ds item =
    codes "item " ++ (item.name ++ (codes " " ++ (kind_text item.kind ++ (codes " " ++ (place_text item.pos
    ++ (codes " " ++ (what_text ds item item.kind ++ codes "\n")))))))

-- a scope with its entry and its items
unfoldable pub scope_lines : Decls → Scope → ℕ → Text
scope_lines ds s entry =
    codes "scope " ++ (s.name ++ (codes " " ++ (decimal entry ++ (codes "\n" ++ lines_of (item_line ds) s.items))))

-- scopes with their entries
abbrev pub scopes_lines : Decls → List Scope → List ℕ → Text
scopes_lines ds [] entries = []
scopes_lines ds (s ∷ ss) [] = []
scopes_lines ds (s ∷ ss) (entry ∷ entries) = scope_lines ds s entry ++ scopes_lines ds ss entries

-- ---- all of them

-- the declarations, with the entries of scopes
unfoldable pub declaration_lines : Decls → List ℕ → Text
declaration_lines ds entries =
    lines_of (structure_lines ds) ds.structures ++ (lines_of (enumeration_lines ds) ds.enumerations
    ++ scopes_lines ds ds.scopes entries)
