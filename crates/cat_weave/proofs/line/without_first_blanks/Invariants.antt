use Rattle.std.proofs.Common.{◌≡◌, ◌+◌, ◌-◌, ◌<◌, ◌≤◌, true, drop, length, get_or}
use Rattle.std.specs.List.{prefix_len}
use Rattle.cat_pos.specs.Bytes.{is_blank}
use Rattle.cat_weave.proofs.line.without_first_blanks.Given as goal

abbrev pub invariant-loop-start : goal.invariant-loop-start
invariant-loop-start l = record {
  within : l.start ≤ length l.bytes;
  after_blank : 0 < l.start → is_blank (get_or l.bytes (l.start - 1) 0) ≡ true;
  counted : l.start + prefix_len is_blank (drop l.start l.bytes) ≡ prefix_len is_blank l.bytes;
}

abbrev pub decreases-loop-start : goal.decreases-loop-start
decreases-loop-start l = length l.bytes - l.start
