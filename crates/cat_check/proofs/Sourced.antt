-- Where a scope calls another: what is found there, and that something is.
use Rattle.std.proofs.Common.{◌≡◌, ◌⊎◌, ◌<◌, ◌∙◌, ◌++◌, ◌∷◌, ℕ, zero, suc, Bool, true, false, List, [], length, Option}
use Rattle.std.proofs.Common.{Some, None, slice_get, refl, sym, ap, subst, inl, inr, arith, if◌then◌else◌}
use Rattle.std.specs.Prelude.{flat_map, filter, option_map, cond}
use Rattle.std.proofs.lemmas.Bool.Decides.{nat_tests}
use Rattle.std.proofs.lemmas.Grind.{flat_map-append}
use Rattle.cat_pos.specs.declared.pos.Pos.{Pos}
use Rattle.cat_value.specs.declared.declaration.Kind.{Kind}
use Rattle.cat_value.specs.declared.declaration.Kind.TheVariants as kind
use Rattle.cat_value.specs.declared.declaration.ItemDecl.{ItemDecl}
use Rattle.cat_value.specs.declared.declaration.Scope.{Scope}
use Rattle.cat_value.specs.declared.decls.Decls.{Decls}
use Rattle.cat_tree.specs.declared.name.Name.{Name}
use Rattle.cat_tree.specs.declared.program.Item.{Item}
use Rattle.cat_tree.specs.declared.program.Item.TheVariants as item
use Rattle.cat_tree.specs.declared.program.Tree.{Tree}
use Rattle.cat_scope.specs.Names.{IsOneOf, items_in, scope_items}
use Rattle.cat_names.specs.Lines.{is_about, is_number, is_scope_name}
use Rattle.cat_names.specs.Lookup.{scope_named}
use Rattle.cat_names.specs.ScopeWords.{item_words, words_in}
use Rattle.cat_names.proofs.Exported.{one_of_two, in_front, behind}
use Rattle.cat_check_names.specs.Table.{Table, IsTableOf}
use Rattle.cat_check.specs.Outlined.{item_outline}
use Rattle.cat_check.specs.inside.Calling.{is_it, is_for, of_word, called_about, called_by_item, declared_at}
use Rattle.cat_check.specs.inside.Calls.{IsCall, IsCallAt}

-- ---- members of lists

pub in_flat : {A B : Type 0} (f : A → List B) (xs : List A) (x : A) (y : B) → IsOneOf x xs → IsOneOf y (f x)
    → IsOneOf y (flat_map f xs)
in_flat f [] x y h i = elim h [ ]
in_flat f (z ∷ xs) x y (inl is) i = in_front y (f z) (flat_map f xs) (subst (λ w. IsOneOf y (f w)) is i)
in_flat f (z ∷ xs) x y (inr h) i = behind y (f z) (flat_map f xs) (in_flat f xs x y h i)

out_flat : {A B : Type 0} (f : A → List B) (xs : List A) (y : B) → IsOneOf y (flat_map f xs)
    → (x : A) × IsOneOf x xs × IsOneOf y (f x)
out_flat f [] y h = elim h [ ]
out_flat {A} f (z ∷ xs) y h = by (one_of_two y (f z) (flat_map f xs) h) (λ i. out_flat f xs y i)
  where
    by : IsOneOf y (f z) ⊎ IsOneOf y (flat_map f xs)
        → (IsOneOf y (flat_map f xs) → (x : A) × IsOneOf x xs × IsOneOf y (f x))
        → (x : A) × IsOneOf x (z ∷ xs) × IsOneOf y (f x)
    by (inl i) rest = (z, inl refl, i)
    by (inr i) rest = let r = rest i in (r.0, inr r.1, r.2)

pub some_there : {A : Type 0} (x : A) (xs : List A) → IsOneOf x xs → 0 < length xs
some_there x [] h = elim h [ ]
some_there x (y ∷ xs) h = omega arith

pub one_at : {A : Type 0} (x : A) (xs : List A) (k : ℕ) → slice_get xs k ≡ Some x → IsOneOf x xs
one_at x [] k h = cc h
one_at x (y ∷ xs) zero h = let same : y ≡ x = cc h in inl (sym same)
one_at x (y ∷ xs) (suc k) h = inr (one_at x xs k h)

-- an element that stands where a test passes
if_passes : {A : Type 0} (b : Bool) (x y : A) → IsOneOf y (if b then x ∷ [] else []) → (b ≡ true) × (y ≡ x)
if_passes true x y (inl is) = (refl, is)
if_passes true x y (inr h) = elim h [ ]
if_passes false x y h = elim h [ ]

passes : {A : Type 0} (b : Bool) (x : A) → b ≡ true → IsOneOf x (if b then x ∷ [] else [])
passes true x h = inl refl
passes false x h = cc h

-- ---- blocks

module _ (ds : Decls) (t : Table) (is_table : IsTableOf (λ s. s.name) ds.scopes t) where
  found_for : (n : ℕ) (o : Option (ℕ × Scope)) → is_it n (option_map (λ x. x.0) o) ≡ is_number n o
  found_for n None = refl
  found_for n (Some found) = refl

  is_for_scope : (n : ℕ) (w : Name) → is_for t n w ≡ is_scope_name ds n w
  is_for_scope n w = ap (is_it n) (is_table w.text) ∙ found_for n (scope_named w.text ds.scopes)

  -- an item without words
  wordless : (called : ℕ) (test : Bool) (i : Item) (more : List Item) → item_words i ≡ []
      → flat_map (of_word t called) (flat_map item_words more)
      ≡ flat_map (of_word t called) (flat_map item_words (cond test (i ∷ more) more))
  wordless called true i more none =
      ap (λ ws. flat_map (of_word t called) (ws ++ flat_map item_words more)) (sym none)
  wordless called false i more none = refl

  about_is : (caller called : ℕ) (items : List Item)
      → flat_map (called_about t caller called) (flat_map item_outline items)
      ≡ flat_map (of_word t called) (words_in ds caller items)
  about_is caller called [] = refl
  about_is caller called (item.Structure p u fields ∷ more) = about_is caller called more
  about_is caller called (item.Enumeration p u cases ∷ more) = about_is caller called more
  about_is caller called (item.Scope p u variables ∷ more) = about_is caller called more
      ∙ wordless called (is_scope_name ds caller u) (item.Scope p u variables) (filter (is_about ds caller) more) refl
  about_is caller called (item.Block b ∷ more) =
      by (is_for t caller b.name) (is_scope_name ds caller b.name) (is_for_scope caller b.name)
      (about_is caller called more)
    where
      by : (c d : Bool) → c ≡ d
          → flat_map (called_about t caller called) (flat_map item_outline more)
          ≡ flat_map (of_word t called) (words_in ds caller more)
          → (if c then flat_map (of_word t called) (item_words (item.Block b)) else [])
          ++ flat_map (called_about t caller called) (flat_map item_outline more)
          ≡ flat_map (of_word t called) (flat_map item_words
          (cond d (item.Block b ∷ filter (is_about ds caller) more) (filter (is_about ds caller) more)))
      by true true same rest = ap (λ ps. flat_map (of_word t called) (item_words (item.Block b)) ++ ps) rest
          ∙ sym (flat_map-append (of_word t called) (item_words (item.Block b)) (words_in ds caller more))
      by true false same rest = cc same
      by false true same rest = cc same
      by false false same rest = rest

  -- ---- calls

  kind_of : (k : Kind) (called : ℕ) → called_by_item k called ≡ true → k ≡ kind.Called called
  kind_of (kind.Called n) called h = let same : n ≡ called = grind (arith, nat_tests, h) in ap kind.Called same
  kind_of _ called h = cc h

  of_kind : (k : Kind) (called : ℕ) → k ≡ kind.Called called → called_by_item k called ≡ true
  of_kind k called is = subst (λ x. called_by_item x called ≡ true) (sym is) (grind (arith, nat_tests))

  abbrev places : ℕ → ℕ → List ItemDecl → List Item → List Pos
  places caller called items about =
      flat_map (declared_at called) items ++ flat_map (called_about t caller called) (flat_map item_outline about)

  number_of : (n : ℕ) (o : Option (ℕ × Scope)) → is_number n o ≡ true
      → (found : ℕ × Scope) × (o ≡ Some found) × (found.0 ≡ n)
  number_of n None h = cc h
  number_of n (Some found) h = (found, refl, grind (arith, nat_tests, h))

  numbered : (n : ℕ) (o : Option (ℕ × Scope)) (found : ℕ × Scope) → o ≡ Some found → found.0 ≡ n
      → is_number n o ≡ true
  numbered n None found is same = cc is
  numbered n (Some f) found is same =
      let one : f ≡ found = cc is in let at : f.0 ≡ n = ap (λ (x : ℕ × Scope). x.0) one ∙ same in
      grind (arith, nat_tests, at)

  module _ (tree : Tree) (caller called : ℕ) (s : Scope) (scope_is : slice_get ds.scopes caller ≡ Some s) where
    items_are : scope_items ds caller ≡ s.items
    items_are = ap items_in scope_is

    pub call_there : IsCall tree ds caller called → 0 < length (places caller called s.items tree.items)
    call_there (inl (i, among, is)) = some_there i.pos (places caller called s.items tree.items)
        (in_front i.pos _ _ (in_flat (declared_at called) s.items i i.pos
        (subst (λ (items : List ItemDecl). IsOneOf i items) items_are among)
        (passes (called_by_item i.kind called) i.pos (of_kind i.kind called is))))
    call_there (inr word) =
        let for_it : is_for t called word.word ≡ true = is_for_scope called word.word
        ∙ numbered called (scope_named word.word.text ds.scopes) word.found word.found_is word.number in
        some_there word.word.pos (places caller called s.items tree.items)
        (behind word.word.pos (flat_map (declared_at called) s.items) _
        (subst (λ ps. IsOneOf word.word.pos ps) (sym (about_is caller called tree.items))
        (in_flat (of_word t called) (words_in ds caller tree.items) word.word word.word.pos word.there
        (passes (is_for t called word.word) word.word.pos for_it))))

    pub call_at : (p : Pos) → IsOneOf p (places caller called s.items tree.items) → IsCallAt tree ds caller called p
    call_at p h = by (one_of_two p (flat_map (declared_at called) s.items) _ h)
      where
        by : IsOneOf p (flat_map (declared_at called) s.items)
            ⊎ IsOneOf p (flat_map (called_about t caller called) (flat_map item_outline tree.items))
            → IsCallAt tree ds caller called p
        by (inl i) = let r = out_flat (declared_at called) s.items p i in
            let q = if_passes (called_by_item r.0.kind called) r.0.pos p r.2 in
            inl (
              r.0,
              subst (λ (items : List ItemDecl). IsOneOf r.0 items) (sym items_are) r.1,
              kind_of r.0.kind called q.0,
              q.1,
            )
        by (inr i) =
            let r = out_flat (of_word t called) (words_in ds caller tree.items) p
            (subst (λ ps. IsOneOf p ps) (about_is caller called tree.items) i) in
            let q = if_passes (is_for t called r.0) r.0.pos p r.2 in
            let f = number_of called (scope_named r.0.text ds.scopes) (sym (is_for_scope called r.0) ∙ q.0) in
            inr (record {
              word = r.0;
              there = r.1;
              found = f.0;
              found_is = f.1;
              number = f.2;
              position_is = q.1;
            })

-- what was added behind nothing
pub behind_none : (old mid all xs ys : List Pos) → old ≡ [] → mid ≡ old ++ xs → all ≡ mid ++ ys → all ≡ xs ++ ys
behind_none old mid all xs ys none first second = second ∙ ap (λ ps. ps ++ ys) first ∙ ap (λ ps. ps ++ xs ++ ys) none
