use Rattle.std.proofs.Common.{length, ◌-◌}
use Rattle.cat_dead_report.specs.inside.Faultless.{IsReached}
use Rattle.cat_dead_report.proofs.faultless.past_given.Given as goal

abbrev pub decreases-loop-index : goal.decreases-loop-index
decreases-loop-index l = length l.order - l.index

abbrev pub invariant-loop-index : goal.invariant-loop-index
invariant-loop-index l = IsReached l.program l.scope l.index
