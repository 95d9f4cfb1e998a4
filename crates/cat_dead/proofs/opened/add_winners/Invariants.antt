use Rattle.std.proofs.Common.{◌≡◌, ◌++◌, drop}
use Rattle.cat_dead.specs.inside.Told.{opened, winners_among, HaveLines}
use Rattle.cat_dead.proofs.opened.add_winners.Given as goal

abbrev pub invariant-loop-leaf : goal.invariant-loop-leaf
invariant-loop-leaf l = record {
  lines : HaveLines l.head (drop l.leaf-index l.leaves);
  opened : opened l.head (drop l.leaf-index l.leaves) ≡ opened l.head l.leaves;
  won : l.won ++ winners_among l.target (drop l.leaf-index l.leaves) ≡ l.fn.won ++ winners_among l.target l.leaves;
}
