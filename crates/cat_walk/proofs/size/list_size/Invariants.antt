use Rattle.std.proofs.Common.{◌≡◌, List, Some, map, drop}
use Rattle.cat_guard.specs.Trees.{Tree, cited_tree_of}
use Rattle.cat_walk.specs.Sizes.{size_of}
use Rattle.cat_walk.proofs.SizeLemmas.{AreSized}
use Rattle.cat_walk.proofs.size.list_size.Given as goal

abbrev pub invariant-loop-at : goal.invariant-loop-at
invariant-loop-at l =
    (names : List Tree) (t : Tree) → l.named ≡ map size_of names → cited_tree_of names l.nodes ≡ Some t
    → AreSized names (drop l.at l.nodes) l.sizes
