use Rattle.std.proofs.Common.{◌≡◌, ◌≤◌, ◌+◌, take}
use Rattle.cat_verify_tables.specs.inside.Causes.{lines_in}
use Rattle.cat_verify_tables.specs.inside.Ordering.{cases_of}
use Rattle.cat_verify_tables.proofs.in_order.enumeration_line.Given as goal

abbrev pub invariant-loop-at : goal.invariant-loop-at
invariant-loop-at l = record {
  line : l.line ≡ l.first + lines_in cases_of (take l.at l.entries);
  early : l.at ≤ l.number;
}
