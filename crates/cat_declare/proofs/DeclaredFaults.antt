-- The faults of what is declared are those of the names in it.
use Rattle.std.proofs.Common.{◌≡◌, ◌∙◌, ℕ, List, ◌++◌, Option, None, Some, refl, ap}
use Rattle.std.specs.Prelude.{flat_map}
use Rattle.cat_tree.specs.declared.name.Name.{Name}
use Rattle.cat_tree.specs.declared.name.Type as written
use Rattle.cat_tree.specs.declared.program.FieldItem.{FieldItem}
use Rattle.cat_tree.specs.declared.program.CaseItem.{CaseItem}
use Rattle.cat_tree.specs.declared.program.Variable.{Variable}
use Rattle.cat_tree.specs.declared.program.Variable.TheVariants as variable
use Rattle.cat_tree.specs.declared.program.Item.{Item}
use Rattle.cat_names.specs.declared.fault.Fault.TheVariants.{NameUnknown}
use Rattle.cat_names.specs.Found.{each_found, faults_of, or_fault}
use Rattle.cat_names.specs.Lookup.{TypeNames, type_found, first_named}
use Rattle.cat_names.specs.Written.{structures_in, enumerations_in, scopes_in, types_in, scope_names_in}
use Rattle.cat_names.specs.Declarations.{field_declared, structure_declared, content_declared, case_declared}
use Rattle.cat_names.specs.Declarations.{enumeration_declared, variable_type, item_declared, scope_declared}
use Rattle.cat_names.specs.Declarations.{types_declared, declared_of}
use Rattle.cat_declare.specs.inside.Made.{type_faults, content_faults, field_faults, case_faults}
use Rattle.cat_declare.specs.inside.Made.{variable_faults, unknown_declared}
use Rattle.cat_declare.proofs.FoundParts.{then_faults, both_faults, each_faults}

module _ (names : TypeNames) where
  structure_faults : (s : Name × List FieldItem) → faults_of (structure_declared names s) ≡ field_faults names s.1
  structure_faults s = then_faults (each_found (field_declared names) s.1) _
      ∙ each_faults (field_declared names) (λ f. type_faults names f.ty) (λ f. then_faults (type_found names f.ty) _)
      s.1

  contents_are : (content : Option written.Type)
      → faults_of (content_declared names content) ≡ content_faults names content
  contents_are None = refl
  contents_are (Some t) = then_faults (type_found names t) _

  enumeration_faults : (e : Name × List CaseItem) → faults_of (enumeration_declared names e) ≡ case_faults names e.1
  enumeration_faults e = then_faults (each_found (case_declared names) e.1) _
      ∙ each_faults (case_declared names) (λ c. content_faults names c.content)
      (λ c. then_faults (content_declared names c.content) _ ∙ contents_are c.content) e.1

  variable_types_are : (t : Option written.Type) → faults_of (variable_type names t) ≡ content_faults names t
  variable_types_are None = refl
  variable_types_are (Some t) = refl

  items_are : (scopes : List (List ℕ)) (v : Variable)
      → faults_of (item_declared names scopes v) ≡ variable_faults names scopes v
  items_are scopes (variable.Own k p w t params) =
      both_faults (variable_type names t) (each_found (λ f. type_found names f.ty) params) _
      ∙ ap (λ fs. fs ++ faults_of (each_found (λ f. type_found names f.ty) params)) (variable_types_are t)
      ∙ ap (λ fs. content_faults names t ++ fs) (each_faults (λ (f : FieldItem). type_found names f.ty)
      (λ f. type_faults names f.ty) (λ f. refl) params)
  items_are scopes (variable.Called w u) =
      then_faults (or_fault (NameUnknown u.pos) (first_named (λ name. name) u.text scopes)) _

  scope_faults : (scopes : List (List ℕ)) (s : Name × List Variable)
      → faults_of (scope_declared names scopes s) ≡ flat_map (variable_faults names scopes) s.1
  scope_faults scopes s = then_faults (each_found (item_declared names scopes) s.1) _
      ∙ each_faults (item_declared names scopes) (variable_faults names scopes) (items_are scopes) s.1

pub declared_faults : (items : List Item) → faults_of (declared_of items) ≡ unknown_declared items
declared_faults items =
    let names = types_in items in let scopes = scope_names_in items in
    let ss = each_found (structure_declared names) (structures_in items) in
    let es = each_found (enumeration_declared names) (enumerations_in items) in
    let cs = each_found (scope_declared names scopes) (scopes_in items) in
    both_faults (types_declared items) cs _
    ∙ ap (λ fs. fs ++ faults_of cs) (both_faults ss es _
    ∙ ap (λ fs. fs ++ faults_of es) (each_faults (structure_declared names) _ (structure_faults names)
    (structures_in items))
    ∙ ap (λ fs. flat_map (λ s. field_faults names s.1) (structures_in items) ++ fs)
    (each_faults (enumeration_declared names) _ (enumeration_faults names) (enumerations_in items)))
    ∙ ap (λ fs. flat_map (λ s. field_faults names s.1) (structures_in items)
    ++ flat_map (λ e. case_faults names e.1) (enumerations_in items) ++ fs)
    (each_faults (scope_declared names scopes) _ (scope_faults names scopes) (scopes_in items))
