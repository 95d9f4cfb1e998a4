use Rattle.cat_machine.proofs.Sorting.{AreSorted}
use Rattle.cat_machine.proofs.ending.by_number.Given as goal

abbrev pub decreases-loop-at : goal.decreases-loop-at
decreases-loop-at l = l.at

abbrev pub invariant-loop-at : goal.invariant-loop-at
invariant-loop-at l = AreSorted l.held l.sorted.items l.at
