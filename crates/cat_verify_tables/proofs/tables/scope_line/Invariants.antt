use Rattle.std.proofs.Common.{◌≡◌, ◌≤◌, ◌+◌, take}
use Rattle.cat_verify_tables.specs.inside.Causes.{lines_in}
use Rattle.cat_verify_tables.specs.inside.NamedWords.{item_count}
use Rattle.cat_verify_tables.proofs.tables.scope_line.Given as goal

abbrev pub invariant-loop-at : goal.invariant-loop-at
invariant-loop-at l = record {
  line : l.line ≡ l.first + lines_in item_count (take l.at l.scopes);
  early : l.at ≤ l.number;
}
