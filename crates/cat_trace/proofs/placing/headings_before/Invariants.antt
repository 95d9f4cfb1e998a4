use Rattle.std.proofs.Common.{◌≡◌, ◌+◌, ◌-◌, ◌≤◌, drop, length}
use Rattle.std.specs.List.{prefix_len}
use Rattle.cat_trace.specs.Over.{headings_before, is_in_front}
use Rattle.cat_trace.proofs.placing.headings_before.Given as goal

abbrev pub invariant-loop-before : goal.invariant-loop-before
invariant-loop-before l = record {
  within : l.before ≤ length l.headings;
  counted : l.before + prefix_len (is_in_front l.piece) (drop l.before l.headings)
      ≡ headings_before l.headings l.piece;
}

abbrev pub decreases-loop-before : goal.decreases-loop-before
decreases-loop-before l = length l.headings - l.before
