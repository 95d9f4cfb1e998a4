use Rattle.std.proofs.Common.{IsTrue, take, drop}
use Rattle.cat_scope.specs.Names.{AllHave}
use Rattle.cat_guard.specs.Trees.{expanded}
use Rattle.cat_walk.specs.Sizes.{is_small}
use Rattle.cat_cert.specs.Heights.{IsUpTo}
use Rattle.cat_cert.proofs.heights.highest.Given as goal

abbrev pub invariant-loop-tree : goal.invariant-loop-tree
invariant-loop-tree l = record {
  low : AllHave (IsUpTo l.most) (take l.tree-index l.trees);
  small : AllHave (λ c. IsTrue (is_small (expanded c.tree))) (drop l.tree-index l.trees);
}
