-- What is met, written out.
use Rattle.std.proofs.Common.{◌≡◌, ◌<◌, min, true, List, [], ◌∷◌, Option, Some, None, IfSome}
use Rattle.std.proofs.Common.{refl, sym, ap, ◌∙◌, subst, arith}
use Rattle.std.proofs.lemmas.Bool.Decides.{nat_tests}
use Rattle.cat_guard.specs.declared.tree.TreeNode.{TreeNode}
use Rattle.cat_guard.specs.declared.tree.TreeNode.TheVariants as node
use Rattle.cat_guard.specs.declared.tree.CitedTree.{CitedTree}
use Rattle.cat_guard.specs.Trees.{Tree, node_before, trees_of, tree_of, one_tree, has_height, is_tree, height, leaves}
use Rattle.cat_guard.specs.Trees.{expanded}
use Rattle.cat_walk.specs.declared.size.TreeSize.{TreeSize}
use Rattle.cat_walk.specs.Sizes.{past_most}
use Rattle.cat_walk.specs.declared.meeting.Met.{Met}
use Rattle.cat_walk.specs.declared.meeting.Met.TheVariants as met
use Rattle.cat_walk.specs.LeafPlaces.{lists_of}
use Rattle.cat_walk.specs.Sizes.{size_of, is_small}
use Rattle.cat_walk.specs.inside.Meetings.{are_earlier, start_of, to_come}
use Rattle.cat_walk.specs.inside.Walking.{trees_met}
use Rattle.cat_walk.specs.inside.Nodes.{nodes_met}
use Rattle.cat_walk.proofs.StandLemmas.{stands}
use Rattle.cat_walk.proofs.WholeLemmas.{expanded_whole, height-below}

trees_of-nodes_met : (ms : List Met) → trees_of (nodes_met ms) ≡ trees_met ms
trees_of-nodes_met [] = refl
trees_of-nodes_met (met.Split a ∷ ms) = ap (node_before (node.Split a)) (trees_of-nodes_met ms)
trees_of-nodes_met (met.Leaf place ∷ ms) = ap (node_before node.Leaf) (trees_of-nodes_met ms)
trees_of-nodes_met (met.Cite i ∷ ms) = trees_of-nodes_met ms
trees_of-nodes_met (met.End ∷ ms) = trees_of-nodes_met ms

-- a small tree is there
pub record IsSmall (c : CitedTree) : Type 0 where
  pub tree : Tree
  pub is : expanded c ≡ Some tree
  pub few : leaves tree < past_most

pub small : (c : CitedTree) → is_small (expanded c) ≡ true → IsSmall c
small c h = by (expanded c) refl h
  where
    by : (o : Option Tree) → expanded c ≡ o → is_small o ≡ true → IsSmall c
    by None at h = absurd (cc)
    by (Some t) at h = record { tree = t; is = at; few = grind (arith, nat_tests, h) }

module _ (c : CitedTree) (h : is_small (expanded c) ≡ true) where
  abbrev all : List Met
  all = to_come (lists_of c) (start_of c ∷ [])

  pub small_earlier : are_earlier 0 (lists_of c) ≡ true
  small_earlier = (stands c (small c h).tree (small c h).is).earlier

  pub small_tree : (nodes : List TreeNode) → nodes ≡ nodes_met all → tree_of nodes ≡ expanded c
  small_tree nodes same =
      ap tree_of same
      ∙ ap one_tree (trees_of-nodes_met all ∙ (stands c (small c h).tree (small c h).is).makes)
      ∙ sym (small c h).is

  low : (t : Tree) → expanded c ≡ Some t → leaves t < past_most → (size : TreeSize) → size ≡ size_of t
      → height t ≡ size.height
  low t is few size same =
      let below = height-below t (expanded_whole c t is) in
      let high : size.height ≡ min (height t) past_most = ap (λ s. s.height) same in
      omega (arith, below, few, high)

  pub small_is_tree : (nodes : List TreeNode) → nodes ≡ nodes_met all → (size : TreeSize)
      → IfSome (expanded c) (λ t. size ≡ size_of t) → is_tree nodes size.height ≡ true
  unfolding is_tree
  small_is_tree nodes same size sized =
      let t = (small c h).tree in
      let is = (small c h).is in
      let size_is = subst (λ o. IfSome o (λ u. size ≡ size_of u)) is sized in
      let high = low t is (small c h).few size size_is in
      ap (has_height size.height) (small_tree nodes same ∙ is) ∙ grind (arith, nat_tests, high)
