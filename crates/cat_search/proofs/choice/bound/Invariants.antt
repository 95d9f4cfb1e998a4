use Rattle.std.proofs.Common.{◌≤◌, ◌-◌, length}
use Rattle.cat_search.proofs.choice.bound.Given as goal

abbrev pub invariant-loop-low : goal.invariant-loop-low
invariant-loop-low l = record {
  low : l.low ≤ length l.order;
  high : l.high ≤ length l.order;
}

abbrev pub decreases-loop-low : goal.decreases-loop-low
decreases-loop-low l = l.high - l.low
