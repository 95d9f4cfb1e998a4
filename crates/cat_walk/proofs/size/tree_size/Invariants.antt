use Rattle.std.proofs.Common.{drop}
use Rattle.cat_walk.proofs.SizeLemmas.{AreNamed}
use Rattle.cat_walk.proofs.size.tree_size.Given as goal

abbrev pub invariant-loop-nodes : goal.invariant-loop-nodes
invariant-loop-nodes l = AreNamed l.tree (drop l.nodes-index l.tree.names) l.sizes
