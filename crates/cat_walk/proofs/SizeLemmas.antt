-- The sizes of the trees that nodes are.
use Rattle.std.proofs.Common.{◌≡◌, ℕ, zero, suc, ◌+◌, min, max, List, [], ◌∷◌, ◌++◌, length, map, drop, Option, Some}
use Rattle.std.proofs.Common.{true, IfSome, IfOk, Result, Ok, Err}
use Rattle.std.specs.declared.alloc.AllocError.{AllocError}
use Rattle.std.proofs.Common.{None, slice_get, refl, sym, ap, ◌∙◌, arith, option_map}
use Rattle.std.proofs.lemmas.List.{length-map, map-append}
use Rattle.std.proofs.lemmas.Option.{slice_get-map}
use Rattle.cat_guard.specs.declared.tree.CitedNode.{CitedNode}
use Rattle.cat_guard.specs.declared.tree.CitedNode.TheVariants as cited
use Rattle.cat_guard.specs.declared.tree.CitedTree.{CitedTree}
use Rattle.cat_guard.specs.Trees.{Tree, height, leaves, named_before, cited_before, cited_trees_of}
use Rattle.cat_guard.specs.Trees.{cited_tree_of}
use Rattle.cat_guard.specs.Trees.{name_behind, named_from, main_of, expanded}
use Rattle.cat_guard.specs.Trees as tree
use Rattle.cat_walk.specs.declared.size.TreeSize.{TreeSize}
use Rattle.cat_walk.specs.Sizes.{past_most}
use Rattle.cat_walk.specs.Sizes.{size_of, is_there}
use Rattle.cat_walk.specs.inside.Sizing.{split_size, Sizable, Sizes, HasSizes}
use Rattle.cat_walk.proofs.Lists.{drop-at}
use Rattle.cat_walk.proofs.StandLemmas.{rest_there, cited_within, one_alone, none_named}

many : (l r : ℕ) → min (min l past_most + min r past_most) past_most ≡ min (l + r) past_most
many l r = omega arith

high : (l r : ℕ) → min (1 + max (min l past_most) (min r past_most)) past_most ≡ min (1 + max l r) past_most
high l r = omega arith

split_size-of : (a : ℕ) (l r : Tree) → split_size (size_of l) (size_of r) ≡ size_of (tree.Split a l r)
split_size-of a l r = rw (many (leaves l) (leaves r), high (height l) (height r)) refl

-- ---- one node

module _ (named : List TreeSize) (names : List Tree) (sizes : named ≡ map size_of names) where
  one_named : (i : ℕ) (t : Tree) (size : TreeSize) → slice_get names i ≡ Some t → slice_get named i ≡ Some size
      → size ≡ size_of t
  one_named i t size at is =
      let there : slice_get named i ≡ Some (size_of t) =
      ap (λ ss. slice_get ss i) sizes ∙ slice_get-map size_of names i ∙ ap (option_map size_of) at in
      cc

  pub sizable : (n : CitedNode) (rest made : List Tree) (behind : List TreeSize)
      → cited_before names n (Some rest) ≡ Some made → behind ≡ map size_of rest → Sizable named n behind
  sizable cited.Leaf rest made behind is same = tt
  sizable (cited.Cite i) rest made behind is same =
      let within = cited_within names i (Some rest) made is in
      let count : length named ≡ length names = ap length sizes ∙ length-map names size_of in
      omega (arith, within, count)
  sizable (cited.Split a) [] made behind is same = absurd (cc)
  sizable (cited.Split a) (l ∷ []) made behind is same = absurd (cc)
  sizable (cited.Split a) (l ∷ r ∷ rest) made behind is same = (size_of l, size_of r, map size_of rest, same)

  pub sized : (n : CitedNode) (rest made : List Tree) (behind : List TreeSize) (size : TreeSize) (after : List TreeSize)
      → cited_before names n (Some rest) ≡ Some made → behind ≡ map size_of rest → Sizes named n behind size after
      → size ∷ after ≡ map size_of made
  sized cited.Leaf rest made behind size after is same has =
      let all : tree.Leaf ∷ rest ≡ made = cc in
      ap (λ s. s ∷ after) has.0 ∙ ap (λ ss. size_of tree.Leaf ∷ ss) (has.1 ∙ same) ∙ ap (map size_of) all
  sized (cited.Cite i) rest made behind size after is same has = by (slice_get names i) refl is
    where
      by : (o : Option Tree) → slice_get names i ≡ o → named_before o rest ≡ Some made
          → size ∷ after ≡ map size_of made
      by None at is = absurd (cc)
      by (Some t) at is =
          let all : t ∷ rest ≡ made = cc in
          ap (λ s. s ∷ after) (one_named i t size at has.0) ∙ ap (λ ss. size_of t ∷ ss) (has.1 ∙ same)
          ∙ ap (map size_of) all
  sized (cited.Split a) [] made behind size after is same has = absurd (cc)
  sized (cited.Split a) (l ∷ []) made behind size after is same has = absurd (cc)
  sized (cited.Split a) (l ∷ r ∷ rest) made behind size after is same has =
      let all : tree.Split a l r ∷ rest ≡ made = cc in
      let whole : has.0 ∷ has.1 ∷ after ≡ size_of l ∷ size_of r ∷ map size_of rest = sym has.2 ∙ same in
      let left : has.0 ≡ size_of l = cc in
      let right : has.1 ≡ size_of r = cc in
      let others : after ≡ map size_of rest = cc in
      ap (λ s. s ∷ after) (has.3 ∙ ap (λ s. split_size s has.1) left ∙ ap (split_size (size_of l)) right
      ∙ split_size-of a l r)
      ∙ ap (λ ss. size_of (tree.Split a l r) ∷ ss) others ∙ ap (map size_of) all

-- ---- the nodes of a list

-- some nodes are trees of these sizes
pub record AreSized (names : List Tree) (ns : List CitedNode) (sizes : List TreeSize) : Type 0 where
  pub trees : List Tree
  pub made : cited_trees_of names ns ≡ Some trees
  pub sizes_are : sizes ≡ map size_of trees

made_from : (names : List Tree) (ns : List CitedNode) (all : List Tree) → cited_trees_of names ns ≡ Some all → (k : ℕ)
    → (trees : List Tree) × (cited_trees_of names (drop k ns) ≡ Some trees)
made_from names [] all is zero = (all, is)
made_from names [] all is (suc k) = (all, is)
made_from names (n ∷ ns) all is zero = (all, is)
made_from names (n ∷ ns) all is (suc k) =
    let rest = rest_there names n (cited_trees_of names ns) all is in
    made_from names ns rest.0 rest.1 k

-- a node stands in front of the nodes that are sized
pub record IsInFront (names : List Tree) (n : CitedNode) (ns : List CitedNode) (k : ℕ) (sizes : List TreeSize) : Type 0
  where
    pub rest : List Tree
    pub made : List Tree
    pub is : cited_before names n (Some rest) ≡ Some made
    pub sizes_are : sizes ≡ map size_of rest
    pub all : cited_trees_of names (drop k ns) ≡ Some made

pub in_front : (names : List Tree) (n : CitedNode) (ns : List CitedNode) (t : Tree) (k : ℕ) (sizes : List TreeSize)
    → cited_tree_of names ns ≡ Some t → slice_get ns k ≡ Some n → AreSized names (drop (suc k) ns) sizes
    → IsInFront names n ns k sizes
in_front names n ns t k sizes is at behind =
    let all = made_from names ns (t ∷ []) (one_alone (cited_trees_of names ns) t is) k in
    record {
      rest = behind.trees;
      made = all.0;
      is =
          ap (cited_before names n) (sym behind.made) ∙ ap (cited_trees_of names) (sym (drop-at ns k n at)) ∙ all.1;
      sizes_are = behind.sizes_are;
      all = all.1;
    }

-- ---- the named trees

there_is : (o : Option Tree) → is_there o ≡ true → (t : Tree) × (o ≡ Some t)
there_is None h = absurd (cc)
there_is (Some t) h = (t, refl)

-- the trees named so far have these sizes, and the others go behind them
pub record AreNamed (c : CitedTree) (more : List (List CitedNode)) (sizes : List TreeSize) : Type 0 where
  pub names : List Tree
  pub sizes_are : sizes ≡ map size_of names
  pub rest : main_of (named_from (Some names) more) c.main ≡ expanded c

-- the next tree over those named so far
record IsNext (c : CitedTree) (names : List Tree) (nodes : List CitedNode) (more : List (List CitedNode)) : Type 0 where
  pub tree : Tree
  pub is : cited_tree_of names nodes ≡ Some tree
  pub rest : main_of (named_from (Some (names ++ tree ∷ [])) more) c.main ≡ expanded c

next_tree : (c : CitedTree) (names : List Tree) (nodes : List CitedNode) (more : List (List CitedNode))
    → is_there (expanded c) ≡ true → main_of (named_from (Some names) (nodes ∷ more)) c.main ≡ expanded c
    → IsNext c names nodes more
next_tree c names nodes more there h = by (cited_tree_of names nodes) refl h
  where
    by : (o : Option Tree) → cited_tree_of names nodes ≡ o
        → main_of (named_from (name_behind names o) more) c.main ≡ expanded c → IsNext c names nodes more
    by None at h =
        let none : main_of (named_from None more) c.main ≡ None = ap (λ o. main_of o c.main) (none_named more) in
        let is = (there_is (expanded c) there).1 in
        absurd (cc)
    by (Some t) at h = record { tree = t; is = at; rest = h }

module _ (c : CitedTree) (there : is_there (expanded c) ≡ true) (nodes : List CitedNode) (more : List (List CitedNode))
    (sizes : List TreeSize) (named : AreNamed c (nodes ∷ more) sizes) where
  abbrev next : IsNext c named.names nodes more
  next = next_tree c named.names nodes more there named.rest

  pub next_sized : HasSizes sizes nodes
  next_sized = record { names = named.names; tree = next.tree; sizes = named.sizes_are; is = next.is }

  pub next_named : (size : TreeSize) → ((names : List Tree) (t : Tree) → sizes ≡ map size_of names
      → cited_tree_of names nodes ≡ Some t → size ≡ size_of t) → AreNamed c more (sizes ++ size ∷ [])
  next_named size gives = record {
    names = named.names ++ next.tree ∷ [];
    sizes_are =
        ap (λ ss. ss ++ size ∷ []) named.sizes_are
        ∙ ap (λ s. map size_of named.names ++ s ∷ [])
        (gives named.names next.tree named.sizes_are next.is)
        ∙ sym (map-append size_of named.names (next.tree ∷ []));
    rest = next.rest;
  }

pub main_sized : (c : CitedTree) → is_there (expanded c) ≡ true → (sizes : List TreeSize) → AreNamed c [] sizes
    → HasSizes sizes c.main
main_sized c there sizes named =
    let is = there_is (expanded c) there in
    record { names = named.names; tree = is.0; sizes = named.sizes_are; is = named.rest ∙ is.1 }

pub main_given : (c : CitedTree) (sizes : List TreeSize) → AreNamed c [] sizes → (made : Result TreeSize AllocError)
    → ((names : List Tree) (t : Tree) → sizes ≡ map size_of names → cited_tree_of names c.main ≡ Some t
    → IfOk made (λ size. size ≡ size_of t)) → IfOk made (λ size. IfSome (expanded c) (λ t. size ≡ size_of t))
main_given c sizes named (Err e) gives = tt
main_given c sizes named (Ok size) gives = by (expanded c) named.rest
  where
    by : (o : Option Tree) → main_of (named_from (Some named.names) []) c.main ≡ o → IfSome o (λ t. size ≡ size_of t)
    by None at = tt
    by (Some t) at = gives named.names t named.sizes_are at
