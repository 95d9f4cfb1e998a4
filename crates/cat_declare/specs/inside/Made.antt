-- What a tree declares where each of its names names something: with another type or scope in the place of a name that
-- names nothing, and with no list deeper than types may be high.
use Rattle.std.specs.Prelude.{ℕ, min, List, [], ◌++◌, map, flat_map, Option, Some, None, option_map}
use Rattle.std.specs.Option.{unwrap_or}
use Rattle.cat_value.specs.declared.ty.Ty.{Ty}
use Rattle.cat_value.specs.declared.ty.Ty.TheVariants as flat
use Rattle.cat_value.specs.declared.declaration.Field.{Field}
use Rattle.cat_value.specs.declared.declaration.Structure.{Structure}
use Rattle.cat_value.specs.declared.declaration.Case.{Case}
use Rattle.cat_value.specs.declared.declaration.Enumeration.{Enumeration}
use Rattle.cat_value.specs.declared.declaration.ItemDecl.{ItemDecl}
use Rattle.cat_value.specs.declared.declaration.Scope.{Scope}
use Rattle.cat_value.specs.Declarations.{highest}
use Rattle.cat_tree.specs.declared.name.Name.{Name}
use Rattle.cat_tree.specs.declared.name.Base.{Base}
use Rattle.cat_tree.specs.declared.name.Type as written
use Rattle.cat_tree.specs.declared.program.FieldItem.{FieldItem}
use Rattle.cat_tree.specs.declared.program.CaseItem.{CaseItem}
use Rattle.cat_tree.specs.declared.program.Variable.{Variable}
use Rattle.cat_tree.specs.declared.program.Variable.TheVariants as variable
use Rattle.cat_tree.specs.declared.program.Item.{Item}
use Rattle.cat_names.specs.declared.fault.Fault.{Fault}
use Rattle.cat_names.specs.declared.fault.Fault.TheVariants.{NameUnknown}
use Rattle.cat_names.specs.Found.{faults_of, or_fault}
use Rattle.cat_names.specs.Lookup.{TypeNames, base_type, nested_list, first_named, type_found}
use Rattle.cat_names.specs.Written.{structures_in, enumerations_in, scopes_in, types_in, scope_names_in}
use Rattle.cat_names.specs.Declarations.{Declared, variable_item, called_item_of}

-- ---- types, where a list is at most so deep

-- the type of a base
abbrev pub base_made : TypeNames → Base → Ty
base_made names b = unwrap_or (base_type names b) flat.Boolean

-- the number of a scope
abbrev pub scope_number : List (List ℕ) → Name → ℕ
scope_number scopes u = unwrap_or (option_map (λ s. s.0) (first_named (λ name. name) u.text scopes)) 0

module _ (depth : ℕ → ℕ) (names : TypeNames) where
  -- a written type
  abbrev pub type_made : written.Type → Ty
  type_made t = nested_list (depth t.lists) (base_made names t.base)

  -- a field
  abbrev pub field_made : FieldItem → Field
  field_made f = record { name = f.name.text; ty = type_made f.ty }

  -- a structure
  abbrev pub structure_made : Name × List FieldItem → Structure
  structure_made s = record { name = s.0.text; fields = map field_made s.1 }

  -- a case
  abbrev pub case_made : CaseItem → Case
  case_made c = record { name = c.name.text; content = option_map type_made c.content }

  -- an enumeration
  abbrev pub enumeration_made : Name × List CaseItem → Enumeration
  enumeration_made e = record { name = e.0.text; cases = map case_made e.1 }

  -- the type of a variable: a condition is a boolean
  abbrev pub variable_type_made : Option written.Type → Ty
  variable_type_made t = unwrap_or (option_map type_made t) flat.Boolean

  -- a variable of a scope, or a called scope
  abbrev pub item_made : List (List ℕ) → Variable → ItemDecl
  item_made scopes (variable.Own k p w t params) =
      variable_item k w t (variable_type_made t) (map (λ f. type_made f.ty) params)
  item_made scopes (variable.Called w u) = called_item_of w (scope_number scopes u)

  -- a scope
  abbrev pub scope_made : List (List ℕ) → Name × List Variable → Scope
  scope_made scopes s = record { name = s.0.text; items = map (item_made scopes) s.1 }

-- all that a tree declares
abbrev pub made : (ℕ → ℕ) → List Item → Declared
made depth items = record {
  structures = map (structure_made depth (types_in items)) (structures_in items);
  enumerations = map (enumeration_made depth (types_in items)) (enumerations_in items);
  scopes = map (scope_made depth (types_in items) (scope_names_in items)) (scopes_in items);
}

-- as deep as it is written
abbrev pub whole : ℕ → ℕ
whole n = n

-- at most as deep as types may be high
abbrev pub cut : ℕ → ℕ
cut n = min n highest

-- ---- the names in declarations that name nothing

-- a written type
abbrev pub type_faults : TypeNames → written.Type → List Fault
type_faults names t = faults_of (type_found names t)

-- a type, where one is written
abbrev pub content_faults : TypeNames → Option written.Type → List Fault
content_faults names None = []
content_faults names (Some t) = type_faults names t

-- fields, or parameters
abbrev pub field_faults : TypeNames → List FieldItem → List Fault
field_faults names fields = flat_map (λ f. type_faults names f.ty) fields

-- cases
abbrev pub case_faults : TypeNames → List CaseItem → List Fault
case_faults names cases = flat_map (λ c. content_faults names c.content) cases

-- the name of a called scope
abbrev pub called_faults : List (List ℕ) → Name → List Fault
called_faults scopes u = faults_of (or_fault (NameUnknown u.pos) (first_named (λ name. name) u.text scopes))

-- a variable of a scope, or a called scope
abbrev pub variable_faults : TypeNames → List (List ℕ) → Variable → List Fault
variable_faults names scopes (variable.Own k p w t params) = content_faults names t ++ field_faults names params
variable_faults names scopes (variable.Called w u) = called_faults scopes u

-- all declarations of a tree
abbrev pub unknown_declared : List Item → List Fault
unknown_declared items = flat_map (λ s. field_faults (types_in items) s.1) (structures_in items)
    ++ flat_map (λ e. case_faults (types_in items) e.1) (enumerations_in items)
    ++ flat_map (λ s. flat_map (variable_faults (types_in items) (scope_names_in items)) s.1) (scopes_in items)
