use Rattle.std.proofs.Common.{◌≡◌, ◌+◌, drop}
use Rattle.cat_app.specs.Leaves.{leaf_count}
use Rattle.cat_app.proofs.leaves.leaf_count.Given as goal

abbrev pub invariant-loop-tree : goal.invariant-loop-tree
invariant-loop-tree l = l.count + leaf_count (drop l.tree-index l.tree-items) ≡ leaf_count l.tree-items
