-- Where no name of a tree is at fault, an unknown name that stands in what it says of its scopes needs a type.
use Rattle.std.specs.Prelude.{flat_map, bytes_eq, not, find}
use Rattle.std.proofs.Common.{◌≡◌, ◌⊎◌, ◌||◌, ℕ, zero, suc, Bool, true, false, List, [], ◌∷◌, ◌++◌, map, Option}
use Rattle.std.proofs.Common.{Some, None, Ok, slice_get, refl, sym, ap, ◌∙◌, subst, arith, inl, inr, if◌then◌else◌}
use Rattle.std.proofs.Common.{cond}
use Rattle.std.proofs.lemmas.Slice.Eq.{bytes_eq-Decides}
use Rattle.cat_pos.specs.declared.pos.Pos.{Pos}
use Rattle.cat_value.specs.declared.declaration.ItemDecl.{ItemDecl}
use Rattle.cat_value.specs.declared.declaration.Scope.{Scope}
use Rattle.cat_value.specs.declared.decls.Decls.{Decls}
use Rattle.cat_tree.specs.declared.name.Name.{Name}
use Rattle.cat_tree.specs.declared.program.Block.{Block}
use Rattle.cat_tree.specs.declared.program.Item.{Item}
use Rattle.cat_tree.specs.declared.program.Item.TheVariants as item
use Rattle.cat_tree.specs.declared.program.Tree.{Tree}
use Rattle.cat_scope.specs.Names.{Names, AllHave, IsOneOf, has_none}
use Rattle.cat_scope.specs.WellFormed.{is_internal}
use Rattle.cat_names.proofs.ListLaws.{behind, in_front}
use Rattle.cat_names.specs.declared.fault.Fault.TheVariants.{NameUnknown, Misplaced}
use Rattle.cat_names.specs.Found.{Found, each_found, fault_if}
use Rattle.cat_names.specs.Lists.{numbered, clashing}
use Rattle.cat_names.specs.Lookup.{scope_named}
use Rattle.cat_names.specs.Written.{texts, names_of, enumerations_in, scopes_in, types_in, scope_names_in}
use Rattle.cat_names.specs.Declarations.{item_declared, scope_declared}
use Rattle.cat_names.specs.DeclarationFaults.{variable_name}
use Rattle.cat_names.specs.Unknown.{is_name}
use Rattle.cat_names.specs.NameFaults.{variables_of, known_in, block_faults, item_faults}
use Rattle.cat_names.specs.Lines.{all_lines, block_lines, is_number, is_scope_name, items_about, item_lines}
use Rattle.cat_names.specs.Lines.{lines_found}
use Rattle.cat_names.specs.Bodies.{outward_function, differ, contradictions, rounds_in, body_found, bodies_meant}
use Rattle.cat_names.specs.TypedNames.{item_typed_names, typed_names_in}
use Rattle.cat_names.specs.Accepted.{IsNamed, parts_of}
use Rattle.cat_names.proofs.OkParts.{then_ok, both_ok}
use Rattle.cat_names.proofs.Lookups.{first_is, numbered_is}
use Rattle.cat_names.proofs.WholeLaws.{named_apart}
use Rattle.cat_names.proofs.DeclaredMade.{declared_parts}
use Rattle.cat_names.proofs.DeclaredCounts.{fine_items}
use Rattle.cat_names.proofs.OnlyLaws.{Only, only_ok, only_then, only_both, only_none, only_each, only_more, split}
use Rattle.cat_names.proofs.KnownNames.{Agrees}
use Rattle.cat_names.proofs.KnownBodies.{all_named, items_named, variables_are, block_only}

-- ---- lists

found_passes : {A : Type 0} (test : A → Bool) (xs : List A) (f : A) → find test xs ≡ Some f → test f ≡ true
found_passes test [] f h = cc h
found_passes {A} test (x ∷ xs) f h = by (test x) refl h (λ e. found_passes test xs f e)
  where
    by : (b : Bool) → test x ≡ b → cond b (Some x) (find test xs) ≡ Some f
        → (find test xs ≡ Some f → test f ≡ true) → test f ≡ true
    by true e g rest = let same : x ≡ f = cc g in subst (λ y. test y ≡ true) same e
    by false e g rest = rest g

-- what each of some things gave, at a number
record GivenAt {A B : Type 0} (f : A → Found B) (xs : List A) (n : ℕ) (y : B) : Type 0 where
  thing : A
  at : slice_get xs n ≡ Some thing
  gives : f thing ≡ Ok y

nothing_at : {A : Type 0} (k : ℕ) (y : A) → slice_get [] k ≡ Some y → ⊥
nothing_at k y e = cc e

given_at : {A B : Type 0} (f : A → Found B) (xs : List A) (ys : List B) (n : ℕ) (y : B) → each_found f xs ≡ Ok ys
    → slice_get ys n ≡ Some y → GivenAt f xs n y
given_at f [] ys n y h at = let is : [] ≡ ys = cc h in
    absurd (nothing_at n y (subst (λ zs. slice_get zs n ≡ Some y) (sym is) at))
given_at {A} {B} f (x ∷ xs) ys n y h at =
    let found = both_ok (f x) (each_found f xs) (λ z rest. Ok (z ∷ rest)) ys h in
    let is : ys ≡ found.0 ∷ found.1 = cc found.4 in
    by n found.0 found.1 found.2 (subst (λ zs. slice_get zs n ≡ Some y) is at)
    (λ k e. given_at f xs found.1 k y found.3 e)
  where
    by : (k : ℕ) (z : B) (rest : List B) → f x ≡ Ok z → slice_get (z ∷ rest) k ≡ Some y
        → ((j : ℕ) → slice_get rest j ≡ Some y → GivenAt f xs j y) → GivenAt f (x ∷ xs) k y
    by zero z rest e g more = let same : z ≡ y = cc g in
        record { thing = x; at = refl; gives = e ∙ ap (λ v. Ok v) same }
    by (suc j) z rest e g more = let next = more j g in
        record { thing = next.thing; at = next.at; gives = next.gives }

-- ---- the scope of a block

some_same : (a b : Scope) → Some a ≡ Some b → a ≡ b
some_same a b e = cc e

-- a name that names the scope of a number
scope_is : (ds : Decls) (n : ℕ) (w : Name) (s : Scope) → is_scope_name ds n w ≡ true → slice_get ds.scopes n ≡ Some s
    → s.name ≡ w.text
scope_is ds n w s h at = by (scope_named w.text ds.scopes) refl h
  where
    by : (o : Option (ℕ × Scope)) → scope_named w.text ds.scopes ≡ o → is_number n o ≡ true → s.name ≡ w.text
    by None e g = cc g
    by (Some f) e g =
        let number : f.0 ≡ n = grind (arith, g) in
        let here : slice_get ds.scopes n ≡ Some f.1 = subst (λ k. slice_get ds.scopes k ≡ Some f.1) number
        (first_is (λ x. x.name) w.text ds.scopes f e) in
        let same : f.1 ≡ s = some_same f.1 s (sym here ∙ at) in
        let named : bytes_eq f.1.name w.text ≡ true =
        found_passes (λ (x : ℕ × Scope). bytes_eq x.1.name w.text) (numbered ds.scopes) f e in
        subst (λ (x : Scope). x.name ≡ w.text) same ((bytes_eq-Decides f.1.name w.text).0 named)

-- what is known in the blocks of a scope is what names stand for there
agrees : (tree : Tree) (ds : Decls) → IsNamed tree (parts_of ds) → (n : ℕ) (s : Scope) → slice_get ds.scopes n ≡ Some s
    → (w : Name) → is_scope_name ds n w ≡ true
    → Agrees (record { decls = ds; items = s.items })
    (known_in tree.items (flat_map (variables_of w.text) (scopes_in tree.items)))
agrees tree ds named n s at w is =
    let items = tree.items in let names = types_in items in let scopes = scope_names_in items in
    let parts = declared_parts items (parts_of ds) named.declared in
    let all = all_named tree ds parts in
    let given = given_at (scope_declared names scopes) (scopes_in items) ds.scopes n s parts.scopes at in
    let made = then_ok (each_found (item_declared names scopes) given.thing.1) _ s given.gives in
    let scope : record { name = given.thing.0.text; items = made.0 } ≡ s = cc made.2 in
    let text : given.thing.0.text ≡ w.text = ap (λ (x : Scope). x.name) scope ∙ scope_is ds n w s is at in
    let variables = variables_are w.text (scopes_in items) n given.thing (named_apart tree named.names) given.at text in
    record {
      types = ap (λ x. record { structures = x; enumerations = texts (names_of (enumerations_in items)) })
          (sym all.structures)
          ∙ ap (λ x. record { structures = map (λ s. s.name) ds.structures; enumerations = x }) (sym all.enumerations);
      scopes = sym all.scopes;
      items = ap (λ vs. texts (map variable_name vs)) variables
          ∙ sym (items_named names scopes given.thing.1 made.0 made.1)
          ∙ ap (λ (x : Scope). map (λ (i : ItemDecl). i.name) x.items) scope;
    }

block_fine : (items : List Item) (b : Block) → item_faults items (item.Block b) ≡ []
    → block_faults (known_in items (flat_map (variables_of b.name.text) (scopes_in items))) b ≡ []
block_fine items b h = by (is_name b.name.text (scope_names_in items)) h
  where
    by : (c : Bool) → (if c then block_faults (known_in items (flat_map (variables_of b.name.text) (scopes_in items))) b
        else NameUnknown b.name.pos ∷ []) ≡ []
        → block_faults (known_in items (flat_map (variables_of b.name.text) (scopes_in items))) b ≡ []
    by true e = e
    by false e = cc e

-- ---- bodies

outward_other : (is : List ItemDecl) (p : Pos) → IsOneOf (NameUnknown p) (flat_map outward_function is) → ⊥
outward_other [] p h = absurd h
outward_other (i ∷ is) p h =
    by (not (has_none i.params || is_internal i.kind)) (λ j. outward_other is p j) h
  where
    by : (b : Bool) → (IsOneOf (NameUnknown p) (flat_map outward_function is) → ⊥)
        → IsOneOf (NameUnknown p) (fault_if b (Misplaced i.pos) ++ flat_map outward_function is) → ⊥
    by true rest (inl same) = cc same
    by true rest (inr j) = rest j
    by false rest j = rest j

misplaced_other : (rs : List (Pos × Bool)) (p : Pos) → IsOneOf (NameUnknown p) (map (λ r. Misplaced r.0) rs) → ⊥
misplaced_other [] p h = absurd h
misplaced_other (r ∷ rs) p (inl same) = cc same
misplaced_other (r ∷ rs) p (inr h) = misplaced_other rs p h

module _ (tree : Tree) (ds : Decls) (named : IsNamed tree (parts_of ds)) where
  module _ (n : ℕ) (s : Scope) (at : slice_get ds.scopes n ≡ Some s) where
    abbrev ns : Names
    ns = record { decls = ds; items = s.items }

    lines_only : (ps : List Pos) (more : List Item) → AllHave (λ i. item_faults tree.items i ≡ []) more
        → ((q : Pos) → IsOneOf q (flat_map item_typed_names more) → IsOneOf q ps)
        → Only ps (all_lines (item_lines ns n) (items_about ds n more))
    lines_only ps [] fine inside = only_ok ps []
    lines_only ps (item.Structure p u fields ∷ more) fine inside = lines_only ps more fine.1 inside
    lines_only ps (item.Enumeration p u cases ∷ more) fine inside = lines_only ps more fine.1 inside
    lines_only ps (item.Scope p u variables ∷ more) fine inside =
        by (is_scope_name ds n u) (lines_only ps more fine.1 inside)
      where
        by : (b : Bool) → Only ps (all_lines (item_lines ns n) (items_about ds n more))
            → Only ps (all_lines (item_lines ns n)
            (cond b (item.Scope p u variables ∷ items_about ds n more) (items_about ds n more)))
        by true rest = only_both ps (item_lines ns n (item.Scope p u variables)) _ _ (only_ok ps _) rest
            (λ xs ys. only_ok ps _)
        by false rest = rest
    lines_only ps (item.Block b ∷ more) fine inside =
        let own = item_typed_names (item.Block b) in let rest = flat_map item_typed_names more in
        by (is_scope_name ds n b.name) refl (λ q i. inside q (in_front q own rest i))
        (lines_only ps more fine.1 (λ q i. inside q (behind q own rest i)))
      where
        by : (c : Bool) → is_scope_name ds n b.name ≡ c
            → ((q : Pos) → IsOneOf q (item_typed_names (item.Block b)) → IsOneOf q ps)
            → Only ps (all_lines (item_lines ns n) (items_about ds n more))
            → Only ps (all_lines (item_lines ns n)
            (cond c (item.Block b ∷ items_about ds n more) (items_about ds n more)))
        by true e here rest = only_both ps (block_lines ns n b) _ _
            (only_more (item_typed_names (item.Block b)) ps (block_lines ns n b) here
            (block_only ns (known_in tree.items (flat_map (variables_of b.name.text) (scopes_in tree.items)))
            (agrees tree ds named n s at b.name e) n b (block_fine tree.items b fine.0))) rest
            (λ xs ys. only_ok ps _)
        by false e here rest = rest

    body_only : Only (typed_names_in tree) (body_found ds tree.items (n, s))
    body_only =
        let ps = typed_names_in tree in let outward = flat_map outward_function s.items in
        only_none ps (outward ++ contradictions (rounds_in ds n tree.items)) _
        (λ p h. by p (split (NameUnknown p) outward (contradictions (rounds_in ds n tree.items)) h))
        (only_then ps (lines_found ns n tree.items) _
        (lines_only ps tree.items (fine_items tree named.names) (λ q i. i)) (λ lines. only_ok ps _))
      where
        by : (p : Pos) → IsOneOf (NameUnknown p) (flat_map outward_function s.items)
            ⊎ IsOneOf (NameUnknown p) (contradictions (rounds_in ds n tree.items)) → ⊥
        by p (inl h) = outward_other s.items p h
        by p (inr h) = misplaced_other (clashing differ (rounds_in ds n tree.items)) p h

  pub bodies_only : Only (typed_names_in tree) (bodies_meant ds tree)
  bodies_only = only_each (typed_names_in tree) (body_found ds tree.items) (numbered ds.scopes)
      (λ x among. body_only x.0 x.1 (numbered_is ds.scopes x among))
