-- Nodes in front of trees: what one node more does to the tree that they make.
use Rattle.std.proofs.Common.{◌≡◌, ℕ, ◌+◌, Bool, true, false, IsTrue, if◌then◌else◌, List, [], ◌∷◌, ◌++◌, length}
use Rattle.std.proofs.Common.{◌<◌, Option, Some, None, refl, sym, ap, ◌∙◌, subst, true≢false, arith, length-append}
use Rattle.cat_guard.specs.declared.table.Atom.{Atom}
use Rattle.cat_guard.specs.declared.table.TableTarget.{TableTarget}
use Rattle.cat_guard.specs.declared.tree.TreeNode.{TreeNode}
use Rattle.cat_guard.specs.declared.tree.TreeNode.TheVariants as node
use Rattle.cat_guard.specs.Judged.{judged_in, covers}
use Rattle.cat_guard.specs.Trees.{Tree, node_before, trees_of, tree_of, one_tree, height}
use Rattle.cat_guard.specs.Trees.{has_height, is_tree, is_whole, leaves}
use Rattle.cat_guard.specs.Trees as tree
use Rattle.cat_guard.specs.Verdicts.{Verdict}
use Rattle.cat_search.specs.declared.bad.BadLeaf.{BadLeaf}
use Rattle.cat_guard.proofs.Exported.{both_true}
use Rattle.cat_search.specs.Searched.{Reached, bad_among, bad_before, flaw_of, rests}
use Rattle.cat_search.specs.inside.ToCome.{in_front, leaf_nodes, rest_nodes}
use Rattle.cat_search.specs.inside.Underway.{bad_one, flaw_at}

-- ---- one node more

pub front_more : (ns : List TreeNode) (n : TreeNode) (trees more : List Tree)
    → node_before n (Some trees) ≡ Some more → in_front (ns ++ n ∷ []) trees ≡ in_front ns more
front_more [] n trees more is = is
front_more (m ∷ ns) n trees more is = ap (node_before m) (front_more ns n trees more is)

pub front_none : (ns : List TreeNode) → in_front ns [] ≡ trees_of ns
front_none [] = refl
front_none (n ∷ ns) = ap (node_before n) (front_none ns)

pub one_more : (ns : List TreeNode) (n : TreeNode) → length (ns ++ n ∷ []) ≡ length ns + 1
one_more ns n = length-append ns (n ∷ [])

-- nodes that make one tree, of that height
pub tree_made : (ns : List TreeNode) (t : Tree) → in_front ns [] ≡ Some (t ∷ []) → tree_of ns ≡ Some t
tree_made ns t is = ap one_tree (sym (front_none ns) ∙ is)

pub is_tree_of : (ns : List TreeNode) (depth : ℕ) (t : Tree) → in_front ns [] ≡ Some (t ∷ []) → height t ≡ depth
    → IsTrue (is_tree ns depth)
unfolding is_tree
is_tree_of ns depth t is high =
    subst (λ (o : Option Tree). IsTrue (has_height depth o)) (sym (tree_made ns t is)) (grind (arith, high))

-- ---- bad leaves

bad_front : (t : TableTarget) (leaf : ℕ) (v : Verdict) (bad more : List BadLeaf) (b : Bool)
    → (if b then bad ++ more else record { leaf = leaf; flaw = flaw_of v } ∷ (bad ++ more))
    ≡ (if b then bad else record { leaf = leaf; flaw = flaw_of v } ∷ bad) ++ more
bad_front t leaf v bad more true = refl
bad_front t leaf v bad more false = refl

pub bad_append : (atoms : List Atom) (t : TableTarget) (ls ms : List Reached)
    → bad_among atoms t (ls ++ ms) ≡ bad_among atoms t ls ++ bad_among atoms t ms
bad_append atoms t [] ms = refl
bad_append atoms t (l ∷ ls) ms =
    ap (bad_before t l.leaf (judged_in atoms l.region t)) (bad_append atoms t ls ms)
    ∙ bad_front t l.leaf (judged_in atoms l.region t) (bad_among atoms t ls) (bad_among atoms t ms)
    (covers t.may_be_empty (judged_in atoms l.region t))

-- a leaf in front of bad ones
pub bad_one_front : (t : TableTarget) (leaf : ℕ) (v : Verdict) (bad : List BadLeaf)
    → bad_before t leaf v bad ≡ bad_one leaf (flaw_at t v) ++ bad
bad_one_front t leaf v bad = by (covers t.may_be_empty v)
  where
    by : (b : Bool)
        → (if b then bad else record { leaf = leaf; flaw = flaw_of v } ∷ bad)
        ≡ bad_one leaf (if b then None else Some (flaw_of v)) ++ bad
    by true = refl
    by false = refl

-- ---- counts

abbrev pub leaves_of : List Tree → ℕ
leaves_of [] = 0
leaves_of (t ∷ ts) = leaves t + leaves_of ts

abbrev pub rests_of : List Tree → ℕ
rests_of [] = 0
rests_of (t ∷ ts) = rests t + rests_of ts

-- one node in front of trees
node_leaves : (n : TreeNode) (ns : List TreeNode) (us ts : List Tree) → node_before n (Some us) ≡ Some ts
    → leaves_of us ≡ leaf_nodes ns → leaves_of ts ≡ leaf_nodes (n ∷ ns)
node_leaves node.Leaf ns us ts is same =
    let e : tree.Leaf ∷ us ≡ ts = cc in subst (λ ts. leaves_of ts ≡ 1 + leaf_nodes ns) e (ap (λ k. 1 + k) same)
node_leaves node.Rest ns us ts is same =
    let e : tree.Rest ∷ us ≡ ts = cc in
    subst (λ ts. leaves_of ts ≡ leaf_nodes ns) e (omega (arith, same))
node_leaves (node.Split a) ns [] ts is same = absurd (cc)
node_leaves (node.Split a) ns (l ∷ []) ts is same = absurd (cc)
node_leaves (node.Split a) ns (l ∷ r ∷ us) ts is same =
    let e : tree.Split a l r ∷ us ≡ ts = cc in
    subst (λ ts. leaves_of ts ≡ leaf_nodes ns) e (omega (arith, same))

node_rests : (n : TreeNode) (ns : List TreeNode) (us ts : List Tree) → node_before n (Some us) ≡ Some ts
    → rests_of us ≡ rest_nodes ns → rests_of ts ≡ rest_nodes (n ∷ ns)
node_rests node.Leaf ns us ts is same =
    let e : tree.Leaf ∷ us ≡ ts = cc in
    subst (λ ts. rests_of ts ≡ rest_nodes ns) e (omega (arith, same))
node_rests node.Rest ns us ts is same =
    let e : tree.Rest ∷ us ≡ ts = cc in subst (λ ts. rests_of ts ≡ 1 + rest_nodes ns) e (ap (λ k. 1 + k) same)
node_rests (node.Split a) ns [] ts is same = absurd (cc)
node_rests (node.Split a) ns (l ∷ []) ts is same = absurd (cc)
node_rests (node.Split a) ns (l ∷ r ∷ us) ts is same =
    let e : tree.Split a l r ∷ us ≡ ts = cc in
    subst (λ ts. rests_of ts ≡ rest_nodes ns) e (omega (arith, same))

counted_leaves : (ns : List TreeNode) (ts : List Tree) → trees_of ns ≡ Some ts → leaves_of ts ≡ leaf_nodes ns
counted_leaves [] ts is = let e : [] ≡ ts = cc in subst (λ ts. leaves_of ts ≡ 0) e refl
counted_leaves (n ∷ ns) ts is = by (trees_of ns) refl is (counted_leaves ns)
  where
    by : (o : Option (List Tree)) → trees_of ns ≡ o → node_before n o ≡ Some ts
        → ((us : List Tree) → trees_of ns ≡ Some us → leaves_of us ≡ leaf_nodes ns) → leaves_of ts ≡ leaf_nodes (n ∷ ns)
    by None e h before = absurd (cc)
    by (Some us) e h before = node_leaves n ns us ts h (before us e)

counted_rests : (ns : List TreeNode) (ts : List Tree) → trees_of ns ≡ Some ts → rests_of ts ≡ rest_nodes ns
counted_rests [] ts is = let e : [] ≡ ts = cc in subst (λ ts. rests_of ts ≡ 0) e refl
counted_rests (n ∷ ns) ts is = by (trees_of ns) refl is (counted_rests ns)
  where
    by : (o : Option (List Tree)) → trees_of ns ≡ o → node_before n o ≡ Some ts
        → ((us : List Tree) → trees_of ns ≡ Some us → rests_of us ≡ rest_nodes ns) → rests_of ts ≡ rest_nodes (n ∷ ns)
    by None e h before = absurd (cc)
    by (Some us) e h before = node_rests n ns us ts h (before us e)

pub leaves_made : (ns : List TreeNode) (t : Tree) → in_front ns [] ≡ Some (t ∷ []) → leaves t ≡ leaf_nodes ns
leaves_made ns t is =
    let all = counted_leaves ns (t ∷ []) (sym (front_none ns) ∙ is) in omega (arith, all)

pub rests_made : (ns : List TreeNode) (t : Tree) → in_front ns [] ≡ Some (t ∷ []) → rests t ≡ rest_nodes ns
rests_made ns t is =
    let all = counted_rests ns (t ∷ []) (sym (front_none ns) ∙ is) in omega (arith, all)

-- a tree is whole where it has no rest
pub whole_of : (t : Tree) → rests t ≡ 0 → is_whole t ≡ true
whole_of tree.Leaf none = refl
whole_of tree.Rest none = absurd (omega (arith, none))
whole_of (tree.Split a left right) none =
    rw (whole_of left (omega (arith, none)), whole_of right (omega (arith, none))) refl

pub part_of : (t : Tree) → 0 < rests t → is_whole t ≡ false
part_of t some = by (is_whole t) refl
  where
    none : (u : Tree) → is_whole u ≡ true → rests u ≡ 0
    none tree.Leaf whole = refl
    none tree.Rest whole = absurd (true≢false (sym whole))
    none (tree.Split a left right) whole =
        let two = both_true (is_whole left) (is_whole right) whole in
        let one = none left two.0 in
        let other = none right two.1 in
        omega (arith, one, other)

    by : (b : Bool) → is_whole t ≡ b → b ≡ false
    by false e = refl
    by true e = let zero_rests = none t e in absurd (omega (arith, some, zero_rests))

-- ---- counts of one node more

pub leaf_more : (ns : List TreeNode) (n : TreeNode) → leaf_nodes (ns ++ n ∷ []) ≡ leaf_nodes ns + leaf_nodes (n ∷ [])
leaf_more [] n = omega arith
leaf_more (node.Leaf ∷ ns) n = let before = leaf_more ns n in omega (arith, before)
leaf_more (node.Rest ∷ ns) n = leaf_more ns n
leaf_more (node.Split a ∷ ns) n = leaf_more ns n

pub rest_more : (ns : List TreeNode) (n : TreeNode) → rest_nodes (ns ++ n ∷ []) ≡ rest_nodes ns + rest_nodes (n ∷ [])
rest_more [] n = omega arith
rest_more (node.Leaf ∷ ns) n = rest_more ns n
rest_more (node.Rest ∷ ns) n = let before = rest_more ns n in omega (arith, before)
rest_more (node.Split a ∷ ns) n = rest_more ns n
