use Rattle.std.proofs.Common.{◌≤◌, ◌-◌, length}
use Rattle.cat_guard.proofs.conjuncts.first_of.Given as goal

abbrev pub invariant-loop-low : goal.invariant-loop-low
invariant-loop-low l = record {
  low : l.low ≤ length l.conjuncts;
  high : l.high ≤ length l.conjuncts;
}

abbrev pub decreases-loop-low : goal.decreases-loop-low
decreases-loop-low l = l.high - l.low
