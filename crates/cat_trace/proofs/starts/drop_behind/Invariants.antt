use Rattle.std.proofs.Common.{length}
use Rattle.cat_trace.specs.inside.Starts.{KeepsUpTo}
use Rattle.cat_trace.proofs.starts.drop_behind.Given as goal

abbrev pub invariant-loop-starts : goal.invariant-loop-starts
invariant-loop-starts l = KeepsUpTo l.line l.initial.starts l.starts

abbrev pub decreases-loop-starts : goal.decreases-loop-starts
decreases-loop-starts l = length l.starts
