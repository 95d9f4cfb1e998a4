use Rattle.std.proofs.Common.{◌≡◌, ◌+◌, ◌-◌, ◌≤◌, drop, length}
use Rattle.std.specs.List.{prefix_len}
use Rattle.cat_cert.specs.Texts.{is_other}
use Rattle.cat_cert.proofs.place.feed_from.Given as goal

abbrev pub invariant-loop-end : goal.invariant-loop-end
invariant-loop-end l = record {
  within : l.end ≤ length l.bytes;
  counted : l.end + prefix_len is_other (drop l.end l.bytes) ≡ l.at + prefix_len is_other (drop l.at l.bytes);
}

abbrev pub decreases-loop-end : goal.decreases-loop-end
decreases-loop-end l = length l.bytes - l.end
