use Rattle.std.proofs.Common.{◌≡◌, ◌+◌, ◌-◌, ◌≤◌, drop, length}
use Rattle.std.specs.List.{prefix_len}
use Rattle.cat_weave.specs.Kinds.{is_hash}
use Rattle.cat_weave.proofs.line.level_of.Given as goal

abbrev pub invariant-loop-level : goal.invariant-loop-level
invariant-loop-level l = record {
  within : l.level ≤ length l.line;
  counted : l.level + prefix_len is_hash (drop l.level l.line) ≡ prefix_len is_hash l.line;
}

abbrev pub decreases-loop-level : goal.decreases-loop-level
decreases-loop-level l = length l.line - l.level
