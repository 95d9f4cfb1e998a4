-- What is declared, where each name in it names something.
use Rattle.std.proofs.Common.{◌≡◌, ℕ, List, [], ◌++◌, map, Option, None, Some, Ok, refl}
use Rattle.std.specs.Prelude.{flat_map, option_map}
use Rattle.std.specs.Option.{unwrap_or}
use Rattle.cat_value.specs.declared.ty.Ty.{Ty}
use Rattle.cat_value.specs.declared.ty.Ty.TheVariants as flat
use Rattle.cat_tree.specs.declared.name.Name.{Name}
use Rattle.cat_tree.specs.declared.name.Type as written
use Rattle.cat_tree.specs.declared.program.FieldItem.{FieldItem}
use Rattle.cat_tree.specs.declared.program.CaseItem.{CaseItem}
use Rattle.cat_tree.specs.declared.program.Variable.{Variable}
use Rattle.cat_tree.specs.declared.program.Variable.TheVariants as variable
use Rattle.cat_tree.specs.declared.program.Item.{Item}
use Rattle.cat_names.specs.declared.fault.Fault.TheVariants.{NameUnknown}
use Rattle.cat_names.specs.Found.{and_then, each_found, faults_of, or_fault}
use Rattle.cat_names.specs.Lookup.{TypeNames, base_type, nested_list, type_found, first_named}
use Rattle.cat_names.specs.Written.{structures_in, enumerations_in, scopes_in, types_in, scope_names_in}
use Rattle.cat_names.specs.Declarations.{field_declared, structure_declared, content_declared, case_declared}
use Rattle.cat_names.specs.Declarations.{enumeration_declared, variable_type, item_declared, scope_declared}
use Rattle.cat_names.specs.Declarations.{types_declared, declared_of, called_item_of}
use Rattle.cat_declare.specs.inside.Made.{type_faults, content_faults, field_faults, case_faults}
use Rattle.cat_declare.specs.inside.Made.{variable_faults, unknown_declared, type_made, field_made, structure_made}
use Rattle.cat_declare.specs.inside.Made.{case_made, enumeration_made, variable_type_made, item_made}
use Rattle.cat_declare.specs.inside.Made.{scope_made, made, whole}
use Rattle.cat_declare.proofs.FoundParts.{then_made, both_made, each_made, nothing_in, nothing_behind}

module _ (names : TypeNames) where
  type_whole : (t : written.Type) → type_faults names t ≡ [] → type_found names t ≡ Ok (type_made whole names t)
  type_whole t none = by (base_type names t.base) none
    where
      by : (o : Option Ty) → faults_of (or_fault (NameUnknown t.pos) (option_map (nested_list t.lists) o)) ≡ []
          → or_fault (NameUnknown t.pos) (option_map (nested_list t.lists) o)
          ≡ Ok (nested_list t.lists (unwrap_or o flat.Boolean))
      by None h = cc h
      by (Some b) h = refl

  field_whole : (f : FieldItem) → type_faults names f.ty ≡ [] → field_declared names f ≡ Ok (field_made whole names f)
  field_whole f none = then_made (type_found names f.ty) (type_made whole names f.ty) _ (type_whole f.ty none)

  structure_whole : (s : Name × List FieldItem) → field_faults names s.1 ≡ []
      → structure_declared names s ≡ Ok (structure_made whole names s)
  structure_whole s none = then_made (each_found (field_declared names) s.1) (map (field_made whole names) s.1) _
      (each_made (field_declared names) (field_made whole names) (λ f. type_faults names f.ty) field_whole s.1 none)

  content_whole : (content : Option written.Type) → content_faults names content ≡ []
      → content_declared names content ≡ Ok (option_map (type_made whole names) content)
  content_whole None none = refl
  content_whole (Some t) none = then_made (type_found names t) (type_made whole names t) _ (type_whole t none)

  case_whole : (c : CaseItem) → content_faults names c.content ≡ []
      → case_declared names c ≡ Ok (case_made whole names c)
  case_whole c none = then_made (content_declared names c.content) (option_map (type_made whole names) c.content) _
      (content_whole c.content none)

  enumeration_whole : (e : Name × List CaseItem) → case_faults names e.1 ≡ []
      → enumeration_declared names e ≡ Ok (enumeration_made whole names e)
  enumeration_whole e none = then_made (each_found (case_declared names) e.1) (map (case_made whole names) e.1) _
      (each_made (case_declared names) (case_made whole names) (λ c. content_faults names c.content) case_whole e.1
      none)

  variable_type_whole : (t : Option written.Type) → content_faults names t ≡ []
      → variable_type names t ≡ Ok (variable_type_made whole names t)
  variable_type_whole None none = refl
  variable_type_whole (Some t) none = type_whole t none

  item_whole : (scopes : List (List ℕ)) (v : Variable) → variable_faults names scopes v ≡ []
      → item_declared names scopes v ≡ Ok (item_made whole names scopes v)
  item_whole scopes (variable.Own k p w t params) none =
      both_made (variable_type names t) (each_found (λ f. type_found names f.ty) params)
      (variable_type_made whole names t) (map (λ f. type_made whole names f.ty) params) _
      (variable_type_whole t (nothing_in (content_faults names t) (field_faults names params) none))
      (each_made (λ (f : FieldItem). type_found names f.ty) (λ f. type_made whole names f.ty)
      (λ f. type_faults names f.ty) (λ f h. type_whole f.ty h) params
      (nothing_behind (content_faults names t) (field_faults names params) none))
  item_whole scopes (variable.Called w u) none = by (first_named (λ name. name) u.text scopes) none
    where
      by : (o : Option (ℕ × List ℕ)) → faults_of (or_fault (NameUnknown u.pos) o) ≡ []
          → and_then (or_fault (NameUnknown u.pos) o) (λ scope. Ok (called_item_of w scope.0))
          ≡ Ok (called_item_of w (unwrap_or (option_map (λ s. s.0) o) 0))
      by None h = cc h
      by (Some s) h = refl

  scope_whole : (scopes : List (List ℕ)) (s : Name × List Variable)
      → flat_map (variable_faults names scopes) s.1 ≡ []
      → scope_declared names scopes s ≡ Ok (scope_made whole names scopes s)
  scope_whole scopes s none =
      then_made (each_found (item_declared names scopes) s.1) (map (item_made whole names scopes) s.1) _
      (each_made (item_declared names scopes) (item_made whole names scopes) (variable_faults names scopes)
      (item_whole scopes) s.1 none)

pub declared_whole : (items : List Item) → unknown_declared items ≡ [] → declared_of items ≡ Ok (made whole items)
declared_whole items none =
    let names = types_in items in let scopes = scope_names_in items in
    let ss = flat_map (λ s. field_faults names s.1) (structures_in items) in
    let es = flat_map (λ e. case_faults names e.1) (enumerations_in items) in
    let front = nothing_in (ss ++ es) _ none in
    both_made (types_declared items) (each_found (scope_declared names scopes) (scopes_in items)) _ _ _
    (both_made (each_found (structure_declared names) (structures_in items))
    (each_found (enumeration_declared names) (enumerations_in items)) _ _ _
    (each_made (structure_declared names) (structure_made whole names) _ (structure_whole names) (structures_in items)
    (nothing_in ss es front))
    (each_made (enumeration_declared names) (enumeration_made whole names) _ (enumeration_whole names)
    (enumerations_in items) (nothing_behind ss es front)))
    (each_made (scope_declared names scopes) (scope_made whole names scopes) _ (scope_whole names scopes)
    (scopes_in items) (nothing_behind (ss ++ es) _ none))
