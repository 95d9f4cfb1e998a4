use Rattle.cat_dead_report.proofs.TryingLemmas.{IsTrying}
use Rattle.cat_dead_report.proofs.found.try_leaves.Given as goal

abbrev pub invariant-loop-leaf : goal.invariant-loop-leaf
invariant-loop-leaf l = IsTrying l.here.program.now l.here.table.now l.here.target.now l.nodes l.derived l.numbers
    l.leaves l.fn.known.items l.at l.way l.leaf-index l.known.items
