use Rattle.std.proofs.Common.{◌≡◌, ◌+◌, ◌≤◌, drop, length, take}
use Rattle.std.specs.List.{prefix_len}
use Rattle.cat_trace.specs.Over.{headings_before, is_in_front}
use Rattle.cat_trace.specs.inside.Starts.{AreStarts}
use Rattle.cat_trace.proofs.placing.starts_by_file.Given as goal

abbrev pub invariant-loop-n : goal.invariant-loop-n
invariant-loop-n l = record {
  within : l.before ≤ length l.headings;
  counted : l.before + prefix_len (is_in_front l.n) (drop l.before l.headings) ≡ headings_before l.headings l.n;
  starts : AreStarts l.headings (take l.n l.pieces) l.starts.items;
}
