-- What a tree without faults of names declares has names that are words, none twice, and keeps the counts.
use Rattle.std.proofs.Common.{◌≡◌, ◌≤◌, ℕ, true, List, [], ◌∷◌, ◌++◌, map, length, Option}
use Rattle.std.proofs.Common.{Some, None, Ok, refl, sym, subst, arith}
use Rattle.std.specs.Prelude.{flat_map, is_none}
use Rattle.cat_pos.specs.declared.pos.Piece.{Piece}
use Rattle.cat_value.specs.declared.ty.Ty.{Ty}
use Rattle.cat_value.specs.declared.ty.Ty.TheVariants as flat
use Rattle.cat_value.specs.declared.declaration.Enumeration.{Enumeration}
use Rattle.cat_value.specs.declared.declaration.ItemDecl.{ItemDecl}
use Rattle.cat_value.specs.declared.declaration.Kind.TheVariants.{Called}
use Rattle.cat_value.specs.declared.declaration.Scope.{Scope}
use Rattle.cat_value.specs.declared.declaration.Structure.{Structure}
use Rattle.cat_value.specs.declared.decls.Decls.{Decls}
use Rattle.cat_value.specs.Declarations.{most_cases}
use Rattle.cat_lex.specs.declared.token.Token.{Token}
use Rattle.cat_lex.specs.Lexes.{Lexes}
use Rattle.cat_tree.specs.declared.name.Name.{Name}
use Rattle.cat_tree.specs.declared.name.Type as written
use Rattle.cat_tree.specs.declared.program.CaseItem.{CaseItem}
use Rattle.cat_tree.specs.declared.program.FieldItem.{FieldItem}
use Rattle.cat_tree.specs.declared.program.Item.{Item}
use Rattle.cat_tree.specs.declared.program.Item.TheVariants as item
use Rattle.cat_tree.specs.declared.program.Tree.{Tree}
use Rattle.cat_tree.specs.declared.program.VariableKind as kinds
use Rattle.cat_tree.specs.declared.program.VariableKind.TheVariants as tree
use Rattle.cat_tree.specs.declared.program.Variable.{Variable}
use Rattle.cat_tree.specs.declared.program.Variable.TheVariants as variable
use Rattle.cat_tree.specs.Programs.{SpellsProgram}
use Rattle.cat_scope.specs.Names.{AllHave}
use Rattle.cat_names.specs.declared.fault.Fault.{Fault}
use Rattle.cat_names.specs.declared.fault.Fault.TheVariants.{NameUnknown}
use Rattle.cat_names.specs.Accepted.{IsNamed, parts_of}
use Rattle.cat_names.specs.DeclarationFaults.{variable_name, param_faults, past}
use Rattle.cat_names.specs.Declarations.{case_declared, enumeration_declared, variable_type}
use Rattle.cat_names.specs.Declarations.{field_declared, item_declared, scope_declared, structure_declared}
use Rattle.cat_names.specs.Declarations.{variable_item, called_item_of, kind_declared}
use Rattle.cat_names.specs.Found.{each_found, or_fault}
use Rattle.cat_names.specs.Limits.{most_items, most_parameters}
use Rattle.cat_names.specs.Lookup.{TypeNames, type_found, first_named}
use Rattle.cat_names.specs.NameFaults.{item_faults}
use Rattle.cat_names.specs.Unknown.{twice}
use Rattle.cat_names.specs.Written.{enumerations_in, scope_names_in, scopes_in, structures_in, texts, types_in}
use Rattle.cat_names.specs.Written.{positions}
use Rattle.cat_names.proofs.Exported.{both_ok, then_ok, item_name, declared_parts, each_on, as_many, fine_items}
use Rattle.cat_names.proofs.Exported.{names_apart, none_past, positions_counted}
use Rattle.cat_build.proofs.Exported.{named_alike, field_name, case_name}
use Rattle.cat_emitted.specs.Spelled.{IsTypeWord, IsPartWord, AreApart, IsSpelledStructure, IsSpelledEnumeration}
use Rattle.cat_emitted.specs.Spelled.{IsSpelledItem, IsSpelledScope, AreSpelledDecls}
use Rattle.cat_emitted.proofs.ListFacts.{apart_texts}
use Rattle.cat_emitted.proofs.TokenNames.{lexed_fair}
use Rattle.cat_emitted.proofs.TreeNames.{IsFairItem, tree_fair}
use Rattle.cat_emitted.proofs.NamesApart.{all_apart, none_in}

-- ---- faults

none_behind : (xs ys : List Fault) → xs ++ ys ≡ [] → ys ≡ []
none_behind [] ys h = h
none_behind (x ∷ xs) ys h = cc h

none_each : {A : Type 0} (f : A → List Fault) (xs : List A) → flat_map f xs ≡ [] → AllHave (λ x. f x ≡ []) xs
none_each f [] h = tt
none_each f (x ∷ xs) h = (none_in (f x) (flat_map f xs) h, none_each f xs (none_behind (f x) (flat_map f xs) h))

-- ---- what is written

pub record IsFairStructure (s : Name × List FieldItem) : Type 0 where
  pub name : IsTypeWord s.0.text
  pub fields : AllHave (λ f. IsPartWord f.name.text) s.1
  pub apart : AreApart (texts (map (λ f. f.name) s.1))

pub record IsFairEnumeration (e : Name × List CaseItem) : Type 0 where
  pub name : IsTypeWord e.0.text
  pub cases : AllHave (λ c. IsTypeWord c.name.text) e.1
  pub apart : AreApart (texts (map (λ c. c.name) e.1))
  pub few : length e.1 ≤ most_cases

pub record IsFairVariable (v : Variable) : Type 0 where
  pub name : IsPartWord (variable_name v).text
  pub params : param_faults v ≡ []

pub record IsFairScope (s : Name × List Variable) : Type 0 where
  pub name : IsTypeWord s.0.text
  pub variables : AllHave IsFairVariable s.1
  pub apart : AreApart (texts (map variable_name s.1))
  pub few : length s.1 ≤ most_items

-- ---- what is declared

module _ (names : TypeNames) where
  structure_spelled : (s : Name × List FieldItem) (d : Structure) → structure_declared names s ≡ Ok d
      → IsFairStructure s → IsSpelledStructure d
  structure_spelled s d h fair =
      let found = then_ok (each_found (field_declared names) s.1) _ d h in
      let is : record { name = s.0.text; fields = found.0 } ≡ d = cc found.2 in
      subst IsSpelledStructure is (record {
        name = fair.name;
        fields = each_on (field_declared names) (λ f. IsPartWord f.name.text) (λ g. IsPartWord g.name)
            (λ f g made word. subst IsPartWord (sym (field_name names f g made)) word) s.1 found.0 found.1 fair.fields;
        apart = subst AreApart (sym (named_alike (field_declared names) (λ f. f.name) (λ g. g.name) (field_name names)
            s.1 found.0 found.1)) fair.apart;
      })

  enumeration_spelled : (e : Name × List CaseItem) (d : Enumeration) → enumeration_declared names e ≡ Ok d
      → IsFairEnumeration e → IsSpelledEnumeration d
  enumeration_spelled e d h fair =
      let found = then_ok (each_found (case_declared names) e.1) _ d h in
      let is : record { name = e.0.text; cases = found.0 } ≡ d = cc found.2 in
      subst IsSpelledEnumeration is (record {
        name = fair.name;
        cases = each_on (case_declared names) (λ c. IsTypeWord c.name.text) (λ c. IsTypeWord c.name)
            (λ c k made word. subst IsTypeWord (sym (case_name names c k made)) word) e.1 found.0 found.1 fair.cases;
        apart = subst AreApart (sym (named_alike (case_declared names) (λ c. c.name) (λ c. c.name) (case_name names)
            e.1 found.0 found.1)) fair.apart;
        few = omega (arith, fair.few, as_many (case_declared names) e.1 found.0 found.1);
      })

  condition_type : (t : Option written.Type) (ty : Ty) → variable_type names t ≡ Ok ty → is_none t ≡ true
      → ty ≡ flat.Boolean
  condition_type None ty h is = let same : flat.Boolean ≡ ty = cc h in sym same
  condition_type (Some t) ty h is = cc is

  not_called : {P : Type 0} (k : kinds.VariableKind) (scope : ℕ) → kind_declared k ≡ Called scope → P
  not_called tree.Input scope h = cc h
  not_called tree.InputOutput scope h = cc h
  not_called tree.Output scope h = cc h
  not_called tree.Internal scope h = cc h
  not_called tree.Context scope h = cc h
  not_called tree.ContextOutput scope h = cc h

  item_spelled : (scopes : List (List ℕ)) (v : Variable) (i : ItemDecl) → item_declared names scopes v ≡ Ok i
      → IsFairVariable v → IsSpelledItem i
  item_spelled scopes (variable.Own k p w t params) i h fair =
      let found = both_ok (variable_type names t) (each_found (λ f. type_found names f.ty) params) _ i h in
      let is : variable_item k w t found.0 found.1 ≡ i = cc found.4 in
      let few = none_past most_parameters (positions (map (λ f. f.name) params))
      (none_behind (twice (map (λ f. f.name) params)) _ fair.params) in
      subst IsSpelledItem is (record {
        name = fair.name;
        few = omega (
          arith,
          few,
          positions_counted (λ (f : FieldItem). f.name) params,
          as_many (λ f. type_found names f.ty) params found.1 found.3,
        );
        condition = λ is_one. condition_type t found.0 found.2 is_one;
        called = λ scope kind_is. not_called k scope kind_is;
      })
  item_spelled scopes (variable.Called w u) i h fair =
      let found = then_ok (or_fault (NameUnknown u.pos) (first_named (λ name. name) u.text scopes)) _ i h in
      let is : called_item_of w found.0.0 ≡ i = cc found.2 in
      subst IsSpelledItem is (record {
        name = fair.name;
        few = omega arith;
        condition = λ none. refl;
        called = λ scope kind_is. refl;
      })

  scope_spelled : (scopes : List (List ℕ)) (s : Name × List Variable) (d : Scope)
      → scope_declared names scopes s ≡ Ok d → IsFairScope s → IsSpelledScope d
  scope_spelled scopes s d h fair =
      let found = then_ok (each_found (item_declared names scopes) s.1) _ d h in
      let is : record { name = s.0.text; items = found.0 } ≡ d = cc found.2 in
      subst IsSpelledScope is (record {
        name = fair.name;
        items = each_on (item_declared names scopes) IsFairVariable IsSpelledItem (item_spelled scopes) s.1 found.0
            found.1 fair.variables;
        apart = subst AreApart (sym (named_alike (item_declared names scopes) variable_name (λ i. i.name)
            (item_name names scopes) s.1 found.0 found.1)) fair.apart;
        few = omega (arith, fair.few, as_many (item_declared names scopes) s.1 found.0 found.1);
      })

-- ---- the tree

abbrev AreFine : List Item → List Item → Type 0
AreFine all items = AllHave (λ i. item_faults all i ≡ []) items

structures_fair : (all items : List Item) → AllHave IsFairItem items → AreFine all items
    → AllHave IsFairStructure (structures_in items)
structures_fair all [] fair fine = tt
structures_fair all (item.Structure p u fields ∷ more) fair fine = (
  record {
    name = fair.0.0;
    fields = fair.0.1;
    apart = apart_texts _ (names_apart (map (λ f. f.name) fields) fine.0);
  },
  structures_fair all more fair.1 fine.1,
)
structures_fair all (item.Enumeration p u cases ∷ more) fair fine = structures_fair all more fair.1 fine.1
structures_fair all (item.Scope p u variables ∷ more) fair fine = structures_fair all more fair.1 fine.1
structures_fair all (item.Block b ∷ more) fair fine = structures_fair all more fair.1 fine.1

enumerations_fair : (all items : List Item) → AllHave IsFairItem items → AreFine all items
    → AllHave IsFairEnumeration (enumerations_in items)
enumerations_fair all [] fair fine = tt
enumerations_fair all (item.Structure p u fields ∷ more) fair fine = enumerations_fair all more fair.1 fine.1
enumerations_fair all (item.Enumeration p u cases ∷ more) fair fine =
    let names = map (λ (c : CaseItem). c.name) cases in
    let few = none_past most_cases (positions names) (none_behind (twice names) _ fine.0) in (
      record {
        name = fair.0.0;
        cases = fair.0.1;
        apart = apart_texts _ (names_apart names (none_in _ _ fine.0));
        few = omega (arith, few, positions_counted (λ (c : CaseItem). c.name) cases);
      },
      enumerations_fair all more fair.1 fine.1,
    )
enumerations_fair all (item.Scope p u variables ∷ more) fair fine = enumerations_fair all more fair.1 fine.1
enumerations_fair all (item.Block b ∷ more) fair fine = enumerations_fair all more fair.1 fine.1

variables_fair : (variables : List Variable) → AllHave (λ v. IsPartWord (variable_name v).text) variables
    → AllHave (λ v. param_faults v ≡ []) variables → AllHave IsFairVariable variables
variables_fair [] words none = tt
variables_fair (v ∷ more) words none =
    (record { name = words.0; params = none.0 }, variables_fair more words.1 none.1)

scopes_fair : (all items : List Item) → AllHave IsFairItem items → AreFine all items
    → AllHave IsFairScope (scopes_in items)
scopes_fair all [] fair fine = tt
scopes_fair all (item.Structure p u fields ∷ more) fair fine = scopes_fair all more fair.1 fine.1
scopes_fair all (item.Enumeration p u cases ∷ more) fair fine = scopes_fair all more fair.1 fine.1
scopes_fair all (item.Scope p u variables ∷ more) fair fine =
    let names = map variable_name variables in
    let front = twice names ++ past most_items (positions names) in
    let few = none_past most_items (positions names) (none_behind (twice names) _ (none_in front _ fine.0)) in (
      record {
        name = fair.0.0;
        variables = variables_fair variables fair.0.1 (none_each param_faults variables (none_behind front _ fine.0));
        apart = apart_texts _ (names_apart names (none_in _ _ (none_in front _ fine.0)));
        few = omega (arith, few, positions_counted variable_name variables);
      },
      scopes_fair all more fair.1 fine.1,
    )
scopes_fair all (item.Block b ∷ more) fair fine = scopes_fair all more fair.1 fine.1

pub declared_spelled : (pieces : List Piece) (tokens : List Token) (tree : Tree) (decls : Decls) → Lexes pieces tokens
    → SpellsProgram tree tokens → IsNamed tree (parts_of decls) → AreSpelledDecls decls
declared_spelled pieces tokens tree decls lexed spelled named =
    let items = tree.items in
    let names = types_in items in
    let scopes = scope_names_in items in
    let parts = declared_parts items (parts_of decls) named.declared in
    let fine = fine_items tree named.names in
    let fair = tree_fair tree tokens spelled (lexed_fair pieces tokens lexed) in
    record {
      structures = each_on (structure_declared names) IsFairStructure IsSpelledStructure (structure_spelled names)
          (structures_in items) decls.structures parts.structures (structures_fair items items fair fine);
      enumerations = each_on (enumeration_declared names) IsFairEnumeration IsSpelledEnumeration
          (enumeration_spelled names) (enumerations_in items) decls.enumerations parts.enumerations
          (enumerations_fair items items fair fine);
      scopes = each_on (scope_declared names scopes) IsFairScope IsSpelledScope (scope_spelled names scopes)
          (scopes_in items) decls.scopes parts.scopes (scopes_fair items items fair fine);
      apart = all_apart tree decls named;
    }
