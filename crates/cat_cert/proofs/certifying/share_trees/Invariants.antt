use Rattle.std.proofs.Common.{◌≡◌, IsTrue, map, take, drop}
use Rattle.cat_scope.specs.Names.{AllHave}
use Rattle.cat_guard.specs.Trees.{tree_of}
use Rattle.cat_walk.specs.Sharing.{is_whole_tree}
use Rattle.cat_cert.specs.Certifiable.{shared_tree}
use Rattle.cat_cert.proofs.certifying.share_trees.Given as goal

abbrev pub invariant-loop-tree : goal.invariant-loop-tree
invariant-loop-tree l = record {
  whole : AllHave (λ t. IsTrue (is_whole_tree (tree_of t.nodes))) (drop l.tree-index l.trees);
  shared : l.made ≡ map (λ t. shared_tree (tree_of t.nodes)) (take l.tree-index l.trees);
}
