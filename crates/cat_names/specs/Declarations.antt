-- What a tree declares: structures, enumerations and scopes, each numbered in source order, with their types resolved.
use Rattle.std.specs.Prelude.{ℕ, is_none, false, List, [], Option, Some, None, Ok}
use Rattle.cat_value.specs.declared.ty.Ty.{Ty}
use Rattle.cat_value.specs.declared.ty.Ty.TheVariants as flat
use Rattle.cat_value.specs.declared.declaration.Field.{Field}
use Rattle.cat_value.specs.declared.declaration.Structure.{Structure}
use Rattle.cat_value.specs.declared.declaration.Case.{Case}
use Rattle.cat_value.specs.declared.declaration.Enumeration.{Enumeration}
use Rattle.cat_value.specs.declared.declaration.Kind.{Kind}
use Rattle.cat_value.specs.declared.declaration.Kind.TheVariants as kind
use Rattle.cat_value.specs.declared.declaration.ItemDecl.{ItemDecl}
use Rattle.cat_value.specs.declared.declaration.Scope.{Scope}
use Rattle.cat_tree.specs.declared.name.Name.{Name}
use Rattle.cat_tree.specs.declared.name.Type as written
use Rattle.cat_tree.specs.declared.program.FieldItem.{FieldItem}
use Rattle.cat_tree.specs.declared.program.CaseItem.{CaseItem}
use Rattle.cat_tree.specs.declared.program.VariableKind as kinds
use Rattle.cat_tree.specs.declared.program.VariableKind.TheVariants as tree
use Rattle.cat_tree.specs.declared.program.Variable.{Variable}
use Rattle.cat_tree.specs.declared.program.Variable.TheVariants as variable
use Rattle.cat_tree.specs.declared.program.Item.{Item}
use Rattle.cat_names.specs.Written.{structures_in, enumerations_in, scopes_in, types_in, scope_names_in}
use Rattle.cat_names.specs.declared.fault.Fault.TheVariants.{NameUnknown}
use Rattle.cat_names.specs.Found.{Found, and_then, both, or_fault, each_found}
use Rattle.cat_names.specs.Lookup.{TypeNames, type_found, first_named}

-- a field
abbrev pub field_declared : TypeNames → FieldItem → Found Field
field_declared names f = and_then (type_found names f.ty) (λ t. Ok (record { name = f.name.text; ty = t }))

-- a structure
abbrev pub structure_declared : TypeNames → Name × List FieldItem → Found Structure
structure_declared names s =
    and_then (each_found (field_declared names) s.1) (λ fields. Ok (record { name = s.0.text; fields = fields }))

-- the content of a case, where it has one
abbrev pub content_declared : TypeNames → Option written.Type → Found (Option Ty)
content_declared names None = Ok None
content_declared names (Some t) = and_then (type_found names t) (λ u. Ok (Some u))

-- a case
abbrev pub case_declared : TypeNames → CaseItem → Found Case
case_declared names c =
    and_then (content_declared names c.content) (λ content. Ok (record { name = c.name.text; content = content }))

-- an enumeration
abbrev pub enumeration_declared : TypeNames → Name × List CaseItem → Found Enumeration
enumeration_declared names e =
    and_then (each_found (case_declared names) e.1) (λ cases. Ok (record { name = e.0.text; cases = cases }))

-- where an item's value comes from
abbrev pub kind_declared : kinds.VariableKind → Kind
kind_declared tree.Input = kind.Input
kind_declared tree.InputOutput = kind.InputOutput
kind_declared tree.Output = kind.Output
kind_declared tree.Internal = kind.Internal
kind_declared tree.Context = kind.Context
kind_declared tree.ContextOutput = kind.ContextOutput

-- the type of a variable; a condition is a boolean
abbrev pub variable_type : TypeNames → Option written.Type → Found Ty
variable_type names None = Ok flat.Boolean
variable_type names (Some t) = type_found names t

-- a variable of that type, with parameters of these types
abbrev pub variable_item : kinds.VariableKind → Name → Option written.Type → Ty → List Ty → ItemDecl
variable_item k w t ty params = record {
  name = w.text;
  pos = w.pos;
  kind = kind_declared k;
  ty = ty;
  condition = is_none t;
  params = params;
}

-- an item that calls a scope
abbrev pub called_item_of : Name → ℕ → ItemDecl
called_item_of w scope =
    record { name = w.text; pos = w.pos; kind = kind.Called scope; ty = flat.Boolean; condition = false; params = [] }

-- a variable of a scope, or a called scope
abbrev pub item_declared : TypeNames → List (List ℕ) → Variable → Found ItemDecl
item_declared names scopes (variable.Own k p w t params) =
    both (variable_type names t) (each_found (λ f. type_found names f.ty) params) (λ ty types.
    Ok (variable_item k w t ty types))
item_declared names scopes (variable.Called w u) =
    and_then (or_fault (NameUnknown u.pos) (first_named (λ name. name) u.text scopes)) (λ scope.
    Ok (called_item_of w scope.0))

-- a scope
abbrev pub scope_declared : TypeNames → List (List ℕ) → Name × List Variable → Found Scope
scope_declared names scopes s =
    and_then (each_found (item_declared names scopes) s.1) (λ items. Ok (record { name = s.0.text; items = items }))

-- all that a tree declares
pub record Declared : Type 0 where
  pub structures : List Structure
  pub enumerations : List Enumeration
  pub scopes : List Scope

-- the types that a tree declares
pub record DeclaredTypes : Type 0 where
  pub structures : List Structure
  pub enumerations : List Enumeration

-- each of them, or the names of types in them that name nothing
abbrev pub types_declared : List Item → Found DeclaredTypes
types_declared items =
    both (each_found (structure_declared (types_in items)) (structures_in items))
    (each_found (enumeration_declared (types_in items)) (enumerations_in items))
    (λ structures enumerations. Ok (record { structures = structures; enumerations = enumerations }))

-- each declaration, or the names of types and scopes in them that name nothing
abbrev pub declared_of : List Item → Found Declared
declared_of items =
    both (types_declared items) (each_found (scope_declared (types_in items) (scope_names_in items)) (scopes_in items))
    (λ types scopes.
    Ok (record { structures = types.structures; enumerations = types.enumerations; scopes = scopes }))
