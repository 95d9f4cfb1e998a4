use Rattle.std.proofs.Common.{◌+◌, length}
use Rattle.cat_depend.specs.inside.Searching.{left_over}
use Rattle.cat_depend.proofs.Searching.{IsUnderWay}
use Rattle.cat_depend.proofs.cycle.leads_to.Given as goal

abbrev pub invariant-loop-number : goal.invariant-loop-number
invariant-loop-number l = IsUnderWay l.deps l.goal l.from l.fn.marks l.marks l.waiting.items

abbrev pub decreases-loop-number : goal.decreases-loop-number
decreases-loop-number l = length l.waiting.items + left_over l.deps l.marks
