-- No two declarations of a tree have one name, in whatever order their names are taken.
use Rattle.std.proofs.Common.{◌≡◌, ℕ, List, [], ◌∷◌, ◌++◌, map, Ok, refl, sym, ap, ap₂, ◌∙◌, subst, append_assoc, inl}
use Rattle.std.proofs.Common.{inr}
use Rattle.std.specs.Prelude.{flat_map}
use Rattle.cat_value.specs.declared.declaration.Enumeration.{Enumeration}
use Rattle.cat_value.specs.declared.declaration.Scope.{Scope}
use Rattle.cat_value.specs.declared.declaration.Structure.{Structure}
use Rattle.cat_value.specs.declared.decls.Decls.{Decls}
use Rattle.cat_tree.specs.declared.name.Name.{Name}
use Rattle.cat_tree.specs.declared.program.CaseItem.{CaseItem}
use Rattle.cat_tree.specs.declared.program.FieldItem.{FieldItem}
use Rattle.cat_tree.specs.declared.program.Item.{Item}
use Rattle.cat_tree.specs.declared.program.Item.TheVariants as item
use Rattle.cat_tree.specs.declared.program.Tree.{Tree}
use Rattle.cat_tree.specs.declared.program.Variable.{Variable}
use Rattle.cat_scope.specs.Names.{IsOneOf}
use Rattle.cat_names.specs.declared.fault.Fault.{Fault}
use Rattle.cat_names.specs.Accepted.{IsNamed, parts_of}
use Rattle.cat_names.specs.DeclarationFaults.{declared_name}
use Rattle.cat_names.specs.Declarations.{case_declared, enumeration_declared, field_declared, item_declared}
use Rattle.cat_names.specs.Declarations.{scope_declared, structure_declared}
use Rattle.cat_names.specs.Found.{Found, each_found}
use Rattle.cat_names.specs.Lookup.{TypeNames}
use Rattle.cat_names.specs.Unknown.{twice}
use Rattle.cat_names.specs.Written.{enumerations_in, scope_names_in, scopes_in, structures_in, texts, types_in}
use Rattle.cat_names.specs.Written.{names_of}
use Rattle.cat_names.proofs.Exported.{both_ok, then_ok, declared_parts, names_apart}
use Rattle.cat_emitted.specs.Spelled.{AreApart, declared_names}
use Rattle.cat_emitted.proofs.ListFacts.{apart_texts, apart_between}

pub none_in : (xs ys : List Fault) → xs ++ ys ≡ [] → xs ≡ []
none_in [] ys h = refl
none_in (x ∷ xs) ys h = cc h

-- ---- names by the kinds of what they name

abbrev by_kinds : List Item → List (List ℕ)
by_kinds items =
    texts (names_of (structures_in items)) ++ texts (names_of (enumerations_in items))
    ++ texts (names_of (scopes_in items))

-- one of two lists with one between
one_between : {A : Type 0} (x t : A) (xs ys : List A) → IsOneOf x (xs ++ t ∷ ys) → IsOneOf x (t ∷ (xs ++ ys))
one_between x t [] ys one = one
one_between x t (y ∷ xs) ys (inl is) = inr (inl is)
one_between x t (y ∷ xs) ys (inr one) = by (one_between x t xs ys one)
  where
    by : IsOneOf x (t ∷ (xs ++ ys)) → IsOneOf x (t ∷ y ∷ (xs ++ ys))
    by (inl is) = inl is
    by (inr more) = inr (inr more)

-- where an enumeration and a scope stand
enumeration_seam : (ss es cs : List (List ℕ)) (t : List ℕ) → ss ++ t ∷ es ++ cs ≡ ss ++ t ∷ (es ++ cs)
enumeration_seam ss es cs t = append_assoc ss (t ∷ es) cs

of_first : (x t : List ℕ) (rest all : List (List ℕ)) → IsOneOf x (t ∷ rest) → (IsOneOf x rest → IsOneOf x all)
    → IsOneOf x (t ∷ all)
of_first x t rest all (inl is) go = inl is
of_first x t rest all (inr one) go = inr (go one)

all_of_kinds : (items : List Item) (x : List ℕ) → IsOneOf x (by_kinds items)
    → IsOneOf x (texts (flat_map declared_name items))
all_of_kinds [] x one = one
all_of_kinds (item.Structure p u fields ∷ more) x (inl is) = inl is
all_of_kinds (item.Structure p u fields ∷ more) x (inr one) = inr (all_of_kinds more x one)
all_of_kinds (item.Enumeration p u cases ∷ more) x one =
    let ss = texts (names_of (structures_in more)) in
    let es = texts (names_of (enumerations_in more)) in
    let cs = texts (names_of (scopes_in more)) in
    of_first x u.text (ss ++ (es ++ cs)) (texts (flat_map declared_name more))
    (one_between x u.text ss (es ++ cs) (subst (IsOneOf x) (enumeration_seam ss es cs u.text) one))
    (λ o. all_of_kinds more x (subst (IsOneOf x) (sym (append_assoc ss es cs)) o))
all_of_kinds (item.Scope p u variables ∷ more) x one =
    let front = texts (names_of (structures_in more)) ++ texts (names_of (enumerations_in more)) in
    of_first x u.text (by_kinds more) (texts (flat_map declared_name more))
    (one_between x u.text front (texts (names_of (scopes_in more))) one) (all_of_kinds more x)
all_of_kinds (item.Block b ∷ more) x one = all_of_kinds more x one

kinds_apart : (items : List Item) → AreApart (texts (flat_map declared_name items)) → AreApart (by_kinds items)
kinds_apart [] h = tt
kinds_apart (item.Structure p u fields ∷ more) h = (λ one. h.0 (all_of_kinds more u.text one), kinds_apart more h.1)
kinds_apart (item.Enumeration p u cases ∷ more) h =
    let ss = texts (names_of (structures_in more)) in
    let es = texts (names_of (enumerations_in more)) in
    let cs = texts (names_of (scopes_in more)) in
    subst AreApart (sym (enumeration_seam ss es cs u.text))
    (apart_between u.text ss (es ++ cs) (subst AreApart (append_assoc ss es cs) (kinds_apart more h.1))
    (λ one. h.0 (all_of_kinds more u.text (subst (IsOneOf u.text) (sym (append_assoc ss es cs)) one))))
kinds_apart (item.Scope p u variables ∷ more) h =
    apart_between u.text (texts (names_of (structures_in more)) ++ texts (names_of (enumerations_in more)))
    (texts (names_of (scopes_in more))) (kinds_apart more h.1) (λ one. h.0 (all_of_kinds more u.text one))
kinds_apart (item.Block b ∷ more) h = kinds_apart more h

-- ---- names of what is declared

alike : {A B : Type 0} (f : Name × A → Found B) (name : B → List ℕ)
    → ((x : Name × A) (y : B) → f x ≡ Ok y → name y ≡ x.0.text) → (xs : List (Name × A)) (ys : List B)
    → each_found f xs ≡ Ok ys → map name ys ≡ texts (names_of xs)
alike f name one [] ys h = let is : [] ≡ ys = cc h in ap (map name) (sym is)
alike f name one (x ∷ xs) ys h =
    let found = both_ok (f x) (each_found f xs) _ ys h in
    let is : found.0 ∷ found.1 ≡ ys = cc found.4 in
    ap (map name) (sym is)
    ∙ ap₂ (λ (t : List ℕ) (ts : List (List ℕ)). t ∷ ts) (one x found.0 found.2) (alike f name one xs found.1 found.3)

structure_name : (names : TypeNames) (s : Name × List FieldItem) (d : Structure) → structure_declared names s ≡ Ok d
    → d.name ≡ s.0.text
structure_name names s d h =
    let found = then_ok (each_found (field_declared names) s.1) _ d h in
    let is : record { name = s.0.text; fields = found.0 } ≡ d = cc found.2 in
    ap (λ (x : Structure). x.name) (sym is)

enumeration_name : (names : TypeNames) (e : Name × List CaseItem) (d : Enumeration)
    → enumeration_declared names e ≡ Ok d → d.name ≡ e.0.text
enumeration_name names e d h =
    let found = then_ok (each_found (case_declared names) e.1) _ d h in
    let is : record { name = e.0.text; cases = found.0 } ≡ d = cc found.2 in
    ap (λ (x : Enumeration). x.name) (sym is)

scope_name : (names : TypeNames) (scopes : List (List ℕ)) (s : Name × List Variable) (d : Scope)
    → scope_declared names scopes s ≡ Ok d → d.name ≡ s.0.text
scope_name names scopes s d h =
    let found = then_ok (each_found (item_declared names scopes) s.1) _ d h in
    let is : record { name = s.0.text; items = found.0 } ≡ d = cc found.2 in
    ap (λ (x : Scope). x.name) (sym is)

pub all_apart : (tree : Tree) (decls : Decls) → IsNamed tree (parts_of decls) → AreApart (declared_names decls)
all_apart tree decls named =
    let items = tree.items in
    let names = types_in items in
    let scopes = scope_names_in items in
    let parts = declared_parts items (parts_of decls) named.declared in
    let all = flat_map declared_name items in
    let none : twice all ≡ [] = none_in _ _ (none_in _ _ (none_in _ _ named.names)) in
    let ss = alike (structure_declared names) (λ (s : Structure). s.name) (structure_name names) (structures_in items)
    decls.structures parts.structures in
    let es = alike (enumeration_declared names) (λ (e : Enumeration). e.name) (enumeration_name names)
    (enumerations_in items) decls.enumerations parts.enumerations in
    let cs = alike (scope_declared names scopes) (λ (s : Scope). s.name) (scope_name names scopes) (scopes_in items)
    decls.scopes parts.scopes in
    subst AreApart
    (sym (ap₂ (λ (xs ys : List (List ℕ)). xs ++ ys) (ap₂ (λ (xs ys : List (List ℕ)). xs ++ ys) ss es) cs))
    (kinds_apart items (apart_texts _ (names_apart all none)))
