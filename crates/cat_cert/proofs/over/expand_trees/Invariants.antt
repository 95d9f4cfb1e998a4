use Rattle.std.proofs.Common.{◌≡◌, IsTrue, map, take, drop}
use Rattle.cat_scope.specs.Names.{AllHave}
use Rattle.cat_guard.specs.Trees.{tree_of, expanded}
use Rattle.cat_walk.specs.Sizes.{is_small}
use Rattle.cat_cert.proofs.over.expand_trees.Given as goal

abbrev pub invariant-loop-tree : goal.invariant-loop-tree
invariant-loop-tree l = record {
  small : AllHave (λ c. IsTrue (is_small (expanded c.tree))) (drop l.tree-index l.trees);
  same : map (λ t. tree_of t.nodes) l.made ≡ map (λ c. expanded c.tree) (take l.tree-index l.trees);
}
