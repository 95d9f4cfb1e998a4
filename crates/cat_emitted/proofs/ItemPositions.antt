-- What a spelled tree declares stands in the files of its tokens.
use Rattle.std.proofs.Common.{◌≡◌, ℕ, List, [], ◌∷◌, Ok, subst}
use Rattle.cat_pos.specs.Position.{pos_file}
use Rattle.cat_value.specs.declared.declaration.ItemDecl.{ItemDecl}
use Rattle.cat_value.specs.declared.declaration.Scope.{Scope}
use Rattle.cat_value.specs.declared.decls.Decls.{Decls}
use Rattle.cat_tree.specs.declared.name.Name.{Name}
use Rattle.cat_tree.specs.declared.program.Item.{Item}
use Rattle.cat_tree.specs.declared.program.Item.TheVariants as item
use Rattle.cat_tree.specs.declared.program.Tree.{Tree}
use Rattle.cat_tree.specs.declared.program.Variable.{Variable}
use Rattle.cat_tree.specs.declared.program.Variable.TheVariants as variable
use Rattle.cat_tree.specs.Declarations.{kind_parts, variable_parts}
use Rattle.cat_tree.specs.Programs.{item_parts, program_parts}
use Rattle.cat_scope.specs.Names.{AllHave}
use Rattle.cat_names.specs.declared.fault.Fault.TheVariants.{NameUnknown}
use Rattle.cat_names.specs.Accepted.{IsNamed, parts_of}
use Rattle.cat_names.specs.DeclarationFaults.{variable_name}
use Rattle.cat_names.specs.Declarations.{variable_type, item_declared, scope_declared, variable_item, called_item_of}
use Rattle.cat_names.specs.Found.{each_found, or_fault}
use Rattle.cat_names.specs.Lookup.{TypeNames, type_found, first_named}
use Rattle.cat_names.specs.Written.{scopes_in, scope_names_in, types_in}
use Rattle.cat_names.proofs.Exported.{both_ok, then_ok, declared_parts, each_on}
use Rattle.cat_lower.specs.Files.{ScopeFits}
use Rattle.cat_emitted.proofs.TreePositions.{HaveFiles, files_back, files_all}

module _ (Q : ℕ → Type 0) where
  abbrev VariableFits : Variable → Type 0
  VariableFits v = Q (pos_file (variable_name v).pos)

  abbrev ItemFits : ItemDecl → Type 0
  ItemFits i = Q (pos_file i.pos)

  -- ---- what is written

  variable_fits : (v : Variable) → HaveFiles Q (variable_parts v) → VariableFits v
  variable_fits (variable.Own k p w t params) h = (files_back Q (kind_parts k p) _ h).0
  variable_fits (variable.Called w u) h = h.0

  variables_fit : (vs : List Variable) → AllHave (λ v. HaveFiles Q (variable_parts v)) vs → AllHave VariableFits vs
  variables_fit [] h = tt
  variables_fit (v ∷ vs) h = (variable_fits v h.0, variables_fit vs h.1)

  abbrev WrittenFits : Name × List Variable → Type 0
  WrittenFits s = AllHave VariableFits s.1

  scopes_written : (items : List Item) → AllHave (λ i. HaveFiles Q (item_parts i)) items
      → AllHave WrittenFits (scopes_in items)
  scopes_written [] h = tt
  scopes_written (item.Structure p u fields ∷ more) h = scopes_written more h.1
  scopes_written (item.Enumeration p u cases ∷ more) h = scopes_written more h.1
  scopes_written (item.Scope p u variables ∷ more) h =
      (variables_fit variables (files_all Q variable_parts variables h.0.1.1), scopes_written more h.1)
  scopes_written (item.Block b ∷ more) h = scopes_written more h.1

  -- ---- what is declared

  item_fits : (names : TypeNames) (scopes : List (List ℕ)) (v : Variable) (i : ItemDecl)
      → item_declared names scopes v ≡ Ok i → VariableFits v → ItemFits i
  item_fits names scopes (variable.Own k p w t params) i h has =
      let found = both_ok (variable_type names t) (each_found (λ f. type_found names f.ty) params) _ i h in
      let is : variable_item k w t found.0 found.1 ≡ i = cc found.4 in
      subst ItemFits is has
  item_fits names scopes (variable.Called w u) i h has =
      let found = then_ok (or_fault (NameUnknown u.pos) (first_named (λ name. name) u.text scopes)) _ i h in
      let is : called_item_of w found.0.0 ≡ i = cc found.2 in
      subst ItemFits is has

  scope_fits : (names : TypeNames) (scopes : List (List ℕ)) (s : Name × List Variable) (d : Scope)
      → scope_declared names scopes s ≡ Ok d → WrittenFits s → ScopeFits Q d
  scope_fits names scopes s d h has =
      let found = then_ok (each_found (item_declared names scopes) s.1) _ d h in
      let is : record { name = s.0.text; items = found.0 } ≡ d = cc found.2 in
      subst (ScopeFits Q) is
      (each_on (item_declared names scopes) VariableFits ItemFits (item_fits names scopes) s.1 found.0 found.1 has)

  pub declared_fits : (tree : Tree) (decls : Decls) → HaveFiles Q (program_parts tree)
      → IsNamed tree (parts_of decls) → AllHave (ScopeFits Q) decls.scopes
  declared_fits tree decls h named =
      let names = types_in tree.items in
      let scopes = scope_names_in tree.items in
      let parts = declared_parts tree.items (parts_of decls) named.declared in
      each_on (scope_declared names scopes) WrittenFits (ScopeFits Q) (scope_fits names scopes) (scopes_in tree.items)
      decls.scopes parts.scopes (scopes_written tree.items (files_all Q item_parts tree.items h))
