-- The names in each declaration of an accepted program are distinct: what stands twice is at fault.
use Rattle.std.proofs.Common.{◌≡◌, ◌∙◌, ℕ, Bool, true, false, true≢false, IsTrue, List, [], ◌∷◌, ◌++◌, map}
use Rattle.std.proofs.Common.{Ok, if◌then◌else◌, refl, sym, ap, ap₂, subst}
use Rattle.std.specs.Prelude.{bytes_eq}
use Rattle.std.specs.List.{list_all}
use Rattle.std.proofs.lemmas.Slice.Eq.{bytes_eq-Decides}
use Rattle.cat_pos.specs.declared.pos.Piece.{Piece}
use Rattle.cat_value.specs.declared.declaration.Case.{Case}
use Rattle.cat_value.specs.declared.declaration.Enumeration.{Enumeration}
use Rattle.cat_value.specs.declared.declaration.Field.{Field}
use Rattle.cat_value.specs.declared.declaration.ItemDecl.{ItemDecl}
use Rattle.cat_value.specs.declared.declaration.Scope.{Scope}
use Rattle.cat_value.specs.declared.declaration.Structure.{Structure}
use Rattle.cat_value.specs.declared.decls.Decls.{Decls}
use Rattle.cat_value.specs.Inputs.{may_be_given}
use Rattle.cat_tree.specs.declared.name.Name.{Name}
use Rattle.cat_tree.specs.declared.program.CaseItem.{CaseItem}
use Rattle.cat_tree.specs.declared.program.FieldItem.{FieldItem}
use Rattle.cat_tree.specs.declared.program.Item.{Item}
use Rattle.cat_tree.specs.declared.program.Item.TheVariants as item
use Rattle.cat_tree.specs.declared.program.Tree.{Tree}
use Rattle.cat_tree.specs.declared.program.Variable.{Variable}
use Rattle.cat_tree.specs.declared.program.Variable.TheVariants as variable
use Rattle.cat_scope.specs.declared.programs.Program.{Program}
use Rattle.cat_scope.specs.Names.{AllHave}
use Rattle.cat_names.specs.declared.fault.Fault.{Fault}
use Rattle.cat_names.specs.Accepted.{IsNamed, parts_of}
use Rattle.cat_names.specs.DeclarationFaults.{variable_name}
use Rattle.cat_names.specs.Declarations.{case_declared, content_declared, enumeration_declared}
use Rattle.cat_names.specs.Declarations.{field_declared, item_declared, scope_declared, structure_declared}
use Rattle.cat_names.specs.Found.{Found, each_found}
use Rattle.cat_names.specs.Lookup.{TypeNames, type_found}
use Rattle.cat_names.specs.NameFaults.{item_faults}
use Rattle.cat_names.specs.Written.{enumerations_in, scope_names_in, scopes_in, structures_in, texts, types_in}
use Rattle.cat_names.proofs.Exported.{both_ok, item_name, then_ok, Apart, declared_parts, each_on, fine_items}
use Rattle.cat_names.proofs.Exported.{names_apart}
use Rattle.cat_json.specs.InputsRead.{given_names}
use Rattle.cat_json.specs.Keys.{field_names, is_among}
use Rattle.cat_json.specs.Names.{are_distinct, case_names, cases_are_distinct, fields_are_distinct}
use Rattle.cat_json.specs.Names.{inputs_are_distinct, names_are_distinct}
use Rattle.cat_build.specs.Accepted.{IsAccepted}

-- ---- texts apart are distinct

differs_back : (t u : List ℕ) → bytes_eq t u ≡ false → bytes_eq u t ≡ false
differs_back t u differs = by (bytes_eq u t) refl
  where
    by : (b : Bool) → bytes_eq u t ≡ b → bytes_eq u t ≡ false
    by false e = e
    by true e = absurd (true≢false (sym ((bytes_eq-Decides t u).1 (sym ((bytes_eq-Decides u t).0 e))) ∙ differs))

not_among : (ts : List (List ℕ)) (t : List ℕ) → AllHave (λ u. bytes_eq t u ≡ false) ts → is_among ts t ≡ false
not_among [] t h = refl
not_among (u ∷ ts) t h = rw (differs_back t u h.0) (not_among ts t h.1)

distinct : (ts : List (List ℕ)) → Apart ts → IsTrue (are_distinct ts)
distinct [] h = refl
distinct (t ∷ ts) h = rw (not_among ts t h.0) (distinct ts h.1)

-- ---- names of parts, in the order in which they are written

pub named_alike : {A B : Type 0} (f : A → Found B) (written : A → Name) (declared : B → List ℕ)
    → ((x : A) (y : B) → f x ≡ Ok y → declared y ≡ (written x).text) → (xs : List A) (ys : List B)
    → each_found f xs ≡ Ok ys → map declared ys ≡ texts (map written xs)
named_alike f written declared one [] ys h = let is : [] ≡ ys = cc h in ap (map declared) (sym is)
named_alike f written declared one (x ∷ xs) ys h =
    let found = both_ok (f x) (each_found f xs) _ ys h in
    let is : found.0 ∷ found.1 ≡ ys = cc found.4 in
    ap (map declared) (sym is)
    ∙ ap₂ (λ (t : List ℕ) (ts : List (List ℕ)). t ∷ ts) (one x found.0 found.2)
    (named_alike f written declared one xs found.1 found.3)

pub field_name : (names : TypeNames) (f : FieldItem) (g : Field) → field_declared names f ≡ Ok g
    → g.name ≡ f.name.text
field_name names f g h =
    let found = then_ok (type_found names f.ty) _ g h in
    let is : record { name = f.name.text; ty = found.0 } ≡ g = cc found.2 in
    ap (λ (x : Field). x.name) (sym is)

pub case_name : (names : TypeNames) (c : CaseItem) (d : Case) → case_declared names c ≡ Ok d → d.name ≡ c.name.text
case_name names c d h =
    let found = then_ok (content_declared names c.content) _ d h in
    let is : record { name = c.name.text; content = found.0 } ≡ d = cc found.2 in
    ap (λ (x : Case). x.name) (sym is)

-- ---- declarations

field_names_are : (fs : List Field) → field_names fs ≡ map (λ f. f.name) fs
field_names_are [] = refl
field_names_are (f ∷ fs) = ap (λ ts. f.name ∷ ts) (field_names_are fs)

case_names_are : (cs : List Case) → case_names cs ≡ map (λ c. c.name) cs
case_names_are [] = refl
case_names_are (c ∷ cs) = ap (λ ts. c.name ∷ ts) (case_names_are cs)

-- names of which some are left out stay apart
given_all : (P : List ℕ → Type 0) (is : List ItemDecl) → AllHave P (map (λ i. i.name) is) → AllHave P (given_names is)
given_all P [] all = tt
given_all P (i ∷ is) all = by (may_be_given i.kind) (given_all P is all.1)
  where
    by : (b : Bool) → AllHave P (given_names is) → AllHave P (if b then i.name ∷ given_names is else given_names is)
    by true rest = (all.0, rest)
    by false rest = rest

given_apart : (is : List ItemDecl) → Apart (map (λ i. i.name) is) → Apart (given_names is)
given_apart [] apart = tt
given_apart (i ∷ is) apart = by (may_be_given i.kind) (given_apart is apart.1)
  where
    by : (b : Bool) → Apart (given_names is) → Apart (if b then i.name ∷ given_names is else given_names is)
    by true rest = (given_all (λ u. bytes_eq i.name u ≡ false) is apart.0, rest)
    by false rest = rest

-- the parts of a declaration have names apart
abbrev PartsApart : {A : Type 0} → (A → Name) → Name × List A → Type 0
PartsApart name d = Apart (texts (map name d.1))

module _ (names : TypeNames) where
  structure_distinct : (s : Name × List FieldItem) (d : Structure) → structure_declared names s ≡ Ok d
      → PartsApart (λ f. f.name) s → IsTrue (fields_are_distinct d)
  structure_distinct s d h apart =
      let found = then_ok (each_found (field_declared names) s.1) _ d h in
      let is : record { name = s.0.text; fields = found.0 } ≡ d = cc found.2 in
      let same = field_names_are found.0
      ∙ named_alike (field_declared names) (λ f. f.name) (λ g. g.name) (field_name names) s.1 found.0 found.1 in
      subst (λ (x : Structure). IsTrue (fields_are_distinct x)) is
      (subst (λ (ts : List (List ℕ)). IsTrue (are_distinct ts)) (sym same) (distinct _ apart))

  enumeration_distinct : (e : Name × List CaseItem) (d : Enumeration) → enumeration_declared names e ≡ Ok d
      → PartsApart (λ c. c.name) e → IsTrue (cases_are_distinct d)
  enumeration_distinct e d h apart =
      let found = then_ok (each_found (case_declared names) e.1) _ d h in
      let is : record { name = e.0.text; cases = found.0 } ≡ d = cc found.2 in
      let same = case_names_are found.0
      ∙ named_alike (case_declared names) (λ c. c.name) (λ c. c.name) (case_name names) e.1 found.0 found.1 in
      subst (λ (x : Enumeration). IsTrue (cases_are_distinct x)) is
      (subst (λ (ts : List (List ℕ)). IsTrue (are_distinct ts)) (sym same) (distinct _ apart))

  scope_distinct : (scopes : List (List ℕ)) (s : Name × List Variable) (d : Scope)
      → scope_declared names scopes s ≡ Ok d → PartsApart variable_name s → IsTrue (inputs_are_distinct d)
  scope_distinct scopes s d h apart =
      let found = then_ok (each_found (item_declared names scopes) s.1) _ d h in
      let is : record { name = s.0.text; items = found.0 } ≡ d = cc found.2 in
      let same = named_alike (item_declared names scopes) variable_name (λ i. i.name) (item_name names scopes) s.1
      found.0 found.1 in
      subst (λ (x : Scope). IsTrue (inputs_are_distinct x)) is
      (distinct (given_names found.0) (given_apart found.0
      (subst (λ (ts : List (List ℕ)). Apart ts) (sym same) apart)))

-- ---- the tree

none_in : (xs ys : List Fault) → xs ++ ys ≡ [] → xs ≡ []
none_in [] ys h = refl
none_in (x ∷ xs) ys h = cc h

structures_apart : (all items : List Item) → AllHave (λ i. item_faults all i ≡ []) items
    → AllHave (PartsApart (λ f. f.name)) (structures_in items)
structures_apart all [] fine = tt
structures_apart all (item.Structure p u fields ∷ more) fine =
    (names_apart (map (λ f. f.name) fields) fine.0, structures_apart all more fine.1)
structures_apart all (item.Enumeration p u cases ∷ more) fine = structures_apart all more fine.1
structures_apart all (item.Scope p u variables ∷ more) fine = structures_apart all more fine.1
structures_apart all (item.Block b ∷ more) fine = structures_apart all more fine.1

enumerations_apart : (all items : List Item) → AllHave (λ i. item_faults all i ≡ []) items
    → AllHave (PartsApart (λ c. c.name)) (enumerations_in items)
enumerations_apart all [] fine = tt
enumerations_apart all (item.Structure p u fields ∷ more) fine = enumerations_apart all more fine.1
enumerations_apart all (item.Enumeration p u cases ∷ more) fine = (
  names_apart (map (λ c. c.name) cases) (none_in _ _ fine.0),
  enumerations_apart all more fine.1,
)
enumerations_apart all (item.Scope p u variables ∷ more) fine = enumerations_apart all more fine.1
enumerations_apart all (item.Block b ∷ more) fine = enumerations_apart all more fine.1

scopes_apart : (all items : List Item) → AllHave (λ i. item_faults all i ≡ []) items
    → AllHave (PartsApart variable_name) (scopes_in items)
scopes_apart all [] fine = tt
scopes_apart all (item.Structure p u fields ∷ more) fine = scopes_apart all more fine.1
scopes_apart all (item.Enumeration p u cases ∷ more) fine = scopes_apart all more fine.1
scopes_apart all (item.Scope p u variables ∷ more) fine = (
  names_apart (map variable_name variables) (none_in _ _ (none_in _ _ fine.0)),
  scopes_apart all more fine.1,
)
scopes_apart all (item.Block b ∷ more) fine = scopes_apart all more fine.1

all_true : {A : Type 0} (test : A → Bool) (xs : List A) → AllHave (λ x. IsTrue (test x)) xs → IsTrue (list_all test xs)
all_true test [] h = refl
all_true test (x ∷ xs) h = rw h.0 (all_true test xs h.1)

named_distinct : (tree : Tree) (decls : Decls) → IsNamed tree (parts_of decls) → IsTrue (names_are_distinct decls)
unfolding names_are_distinct
named_distinct tree decls named =
    let items = tree.items in
    let names = types_in items in
    let scopes = scope_names_in items in
    let parts = declared_parts items (parts_of decls) named.declared in
    let fine = fine_items tree named.names in
    rw (
      all_true fields_are_distinct decls.structures
          (each_on (structure_declared names) (PartsApart (λ f. f.name)) (λ d. IsTrue (fields_are_distinct d))
          (structure_distinct names) (structures_in items) decls.structures parts.structures
          (structures_apart items items fine)),
      all_true cases_are_distinct decls.enumerations
          (each_on (enumeration_declared names) (PartsApart (λ c. c.name)) (λ d. IsTrue (cases_are_distinct d))
          (enumeration_distinct names) (enumerations_in items) decls.enumerations parts.enumerations
          (enumerations_apart items items fine)),
      all_true inputs_are_distinct decls.scopes
          (each_on (scope_declared names scopes) (PartsApart variable_name) (λ d. IsTrue (inputs_are_distinct d))
          (scope_distinct names scopes) (scopes_in items) decls.scopes parts.scopes
          (scopes_apart items items fine)),
    ) refl

pub accepted_distinct : (pieces : List Piece) (program : Program) → IsAccepted pieces program
    → IsTrue (names_are_distinct program.decls)
accepted_distinct pieces program is = named_distinct is.program_is.tree program.decls is.program_is.meant.meant.named
