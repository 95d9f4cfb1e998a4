-- What holds of leaves and of splits holds of the tree that a tree with citations stands for.
use Rattle.std.proofs.Common.{◌≡◌, ℕ, zero, suc, ◌<◌, Bool, true, List, [], ◌∷◌, ◌++◌}
use Rattle.std.proofs.Common.{Option, Some, None, slice_get, refl, sym, subst, arith, true≢false}
use Rattle.std.specs.List.{list_all}
use Rattle.cat_scope.specs.Names.{AllHave}
use Rattle.cat_guard.specs.declared.tree.CitedNode.{CitedNode}
use Rattle.cat_guard.specs.declared.tree.CitedNode.TheVariants as cited
use Rattle.cat_guard.specs.declared.tree.CitedTree.{CitedTree}
use Rattle.cat_guard.specs.Trees.{Tree, is_whole, height, leaves, one_tree, named_before, cited_before, cited_trees_of}
use Rattle.cat_guard.specs.Trees.{cited_tree_of, name_behind, named_from, main_of, expanded}
use Rattle.cat_guard.specs.Trees as tree
use Rattle.cat_guard.proofs.Exported.{both_true}
use Rattle.cat_walk.specs.LeafPlaces.{lists_of}
use Rattle.cat_walk.specs.Walkable.{splits_pass, nodes_pass}

-- a property of leaves, and of splits on atoms that pass a test where both sides have it
record IsMade (pass : ℕ → Bool) (has : Tree → Bool) : Type 0 where
  pub leaf : has tree.Leaf ≡ true
  pub split : (a : ℕ) (l r : Tree) → pass a ≡ true → has l ≡ true → has r ≡ true → has (tree.Split a l r) ≡ true

module _ (pass : ℕ → Bool) (has : Tree → Bool) (made : IsMade pass has) where
  abbrev All : List Tree → Type 0
  All ts = AllHave (λ t. has t ≡ true) ts

  all_at : (ts : List Tree) (i : ℕ) (t : Tree) → All ts → slice_get ts i ≡ Some t → has t ≡ true
  all_at [] i t all at = absurd (cc)
  all_at (u ∷ ts) zero t all at =
      let same : u ≡ t = cc in
      subst (λ x. has x ≡ true) same all.0
  all_at (u ∷ ts) (suc i) t all at = all_at ts i t all.1 at

  -- where there are trees, they have it
  abbrev Gives : Option (List Tree) → Type 0
  Gives o = (ts : List Tree) → o ≡ Some ts → All ts

  cite_gives : (names : List Tree) → All names → (i : ℕ) (o : Option Tree) → slice_get names i ≡ o
      → (rest : List Tree) → All rest → Gives (named_before o rest)
  cite_gives names named i None at rest all ts is = absurd (cc)
  cite_gives names named i (Some t) at rest all ts is =
      let same : t ∷ rest ≡ ts = cc in
      subst All same (all_at names i t named at, all)

  leaf_gives : (names : List Tree) (o : Option (List Tree)) → Gives o → Gives (cited_before names cited.Leaf o)
  leaf_gives names None gives ts is = absurd (cc)
  leaf_gives names (Some rest) gives ts is =
      let same : tree.Leaf ∷ rest ≡ ts = cc in
      subst All same (made.leaf, gives rest refl)

  split_gives : (names : List Tree) (a : ℕ) → pass a ≡ true → (o : Option (List Tree)) → Gives o
      → Gives (cited_before names (cited.Split a) o)
  split_gives names a ok None gives ts is = absurd (cc)
  split_gives names a ok (Some []) gives ts is = absurd (cc)
  split_gives names a ok (Some (l ∷ [])) gives ts is = absurd (cc)
  split_gives names a ok (Some (l ∷ r ∷ rest)) gives ts is =
      let all = gives (l ∷ r ∷ rest) refl in
      let same : tree.Split a l r ∷ rest ≡ ts = cc in
      subst All same (made.split a l r ok all.0 all.1.0, all.1.1)

  named_gives : (names : List Tree) → All names → (i : ℕ) (o : Option (List Tree)) → Gives o
      → Gives (cited_before names (cited.Cite i) o)
  named_gives names named i None gives ts is = absurd (cc)
  named_gives names named i (Some rest) gives ts is =
      cite_gives names named i (slice_get names i) refl rest (gives rest refl) ts is

  nodes_give : (names : List Tree) → All names → (ns : List CitedNode) → nodes_pass pass ns ≡ true
      → Gives (cited_trees_of names ns)
  nodes_give names named [] ok ts is =
      let same : [] ≡ ts = cc in
      subst All same tt
  nodes_give names named (cited.Leaf ∷ ns) ok ts is =
      leaf_gives names (cited_trees_of names ns) (nodes_give names named ns ok) ts is
  nodes_give names named (cited.Split a ∷ ns) ok ts is =
      let two = both_true (pass a) (nodes_pass pass ns) ok in
      split_gives names a two.0 (cited_trees_of names ns) (nodes_give names named ns two.1) ts is
  nodes_give names named (cited.Cite i ∷ ns) ok ts is =
      named_gives names named i (cited_trees_of names ns) (nodes_give names named ns ok) ts is

  one_gives : (o : Option (List Tree)) (t : Tree) → Gives o → one_tree o ≡ Some t → has t ≡ true
  one_gives None t gives is = absurd (cc)
  one_gives (Some []) t gives is = absurd (cc)
  one_gives (Some (u ∷ [])) t gives is =
      let same : u ≡ t = cc in
      subst (λ x. has x ≡ true) same (gives (u ∷ []) refl).0
  one_gives (Some (u ∷ w ∷ us)) t gives is = absurd (cc)

  tree_has : (names : List Tree) → All names → (ns : List CitedNode) → nodes_pass pass ns ≡ true → (t : Tree)
      → cited_tree_of names ns ≡ Some t → has t ≡ true
  tree_has names named ns ok t is =
      one_gives (cited_trees_of names ns) t (nodes_give names named ns ok) is

  all_more : (names : List Tree) (t : Tree) → All names → has t ≡ true → All (names ++ t ∷ [])
  all_more [] t named is = (is, tt)
  all_more (u ∷ names) t named is = (named.0, all_more names t named.1 is)

  name_gives : (names : List Tree) → All names → (ns : List CitedNode) → nodes_pass pass ns ≡ true → (o : Option Tree)
      → cited_tree_of names ns ≡ o → Gives (name_behind names o)
  name_gives names named ns ok None at ts is = absurd (cc)
  name_gives names named ns ok (Some u) at ts is =
      let same : names ++ u ∷ [] ≡ ts = cc in
      subst All same (all_more names u named (tree_has names named ns ok u at))

  -- so has the tree that the last of some lists is
  main_has : (o : Option (List Tree)) → Gives o → (lists : List (List CitedNode)) (main : List CitedNode)
      → list_all (nodes_pass pass) (lists ++ main ∷ []) ≡ true → (t : Tree)
      → main_of (named_from o lists) main ≡ Some t → has t ≡ true
  main_has None gives [] main ok t is = absurd (cc)
  main_has (Some names) gives [] main ok t is =
      tree_has names (gives names refl) main (both_true (nodes_pass pass main) true ok).0 t is
  main_has None gives (nodes ∷ more) main ok t is =
      main_has None gives more main
      (both_true (nodes_pass pass nodes) (list_all (nodes_pass pass) (more ++ main ∷ [])) ok).1 t is
  main_has (Some names) gives (nodes ∷ more) main ok t is =
      let two = both_true (nodes_pass pass nodes) (list_all (nodes_pass pass) (more ++ main ∷ [])) ok in
      main_has (name_behind names (cited_tree_of names nodes))
      (name_gives names (gives names refl) nodes two.0 (cited_tree_of names nodes) refl) more main two.1 t is

  expanded_has : (c : CitedTree) → list_all (nodes_pass pass) (lists_of c) ≡ true → (t : Tree)
      → expanded c ≡ Some t → has t ≡ true
  expanded_has c ok t is =
      main_has (Some []) (λ ts same. let none : [] ≡ ts = cc in subst All none tt) c.names c.main ok t is

-- ---- a tree with citations stands for a whole tree

split_whole : (a : ℕ) (l r : Tree) → true ≡ true → is_whole l ≡ true → is_whole r ≡ true
    → is_whole (tree.Split a l r) ≡ true
split_whole a l r ok left right = rw left right

all_pass : (ns : List CitedNode) → nodes_pass (λ a. true) ns ≡ true
all_pass [] = refl
all_pass (cited.Leaf ∷ ns) = all_pass ns
all_pass (cited.Split a ∷ ns) = all_pass ns
all_pass (cited.Cite i ∷ ns) = all_pass ns

lists_pass : (lists : List (List CitedNode)) → list_all (nodes_pass (λ a. true)) lists ≡ true
lists_pass [] = refl
lists_pass (ns ∷ more) = rw (all_pass ns) (lists_pass more)

pub expanded_whole : (c : CitedTree) (t : Tree) → expanded c ≡ Some t → is_whole t ≡ true
expanded_whole c t is =
    expanded_has (λ a. true) is_whole (record { leaf = refl; split = split_whole }) c (lists_pass (lists_of c)) t is

-- a whole tree is lower than it has leaves
pub height-below : (t : Tree) → is_whole t ≡ true → height t < leaves t
height-below tree.Leaf whole = omega arith
height-below tree.Rest whole = absurd (true≢false (sym whole))
height-below (tree.Split a left right) whole =
    let both = both_true (is_whole left) (is_whole right) whole in
    let one = height-below left both.0 in
    let other = height-below right both.1 in
    omega (arith, one, other)

-- ---- its splits are those that are written

split_passes : (pass : ℕ → Bool) (a : ℕ) (l r : Tree) → pass a ≡ true → splits_pass pass l ≡ true
    → splits_pass pass r ≡ true → splits_pass pass (tree.Split a l r) ≡ true
split_passes pass a l r ok left right = rw (ok, left) right

pub splits_as_written : (pass : ℕ → Bool) (c : CitedTree) (t : Tree) → expanded c ≡ Some t
    → list_all (nodes_pass pass) (lists_of c) ≡ true → splits_pass pass t ≡ true
splits_as_written pass c t is ok =
    expanded_has pass (splits_pass pass) (record { leaf = refl; split = split_passes pass }) c ok t is
