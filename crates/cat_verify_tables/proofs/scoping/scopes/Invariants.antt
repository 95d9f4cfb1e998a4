use Rattle.std.proofs.Common.{◌≡◌, ◌+◌, [], take}
use Rattle.cat_verify_tables.specs.inside.Causes.{lines_in}
use Rattle.cat_verify_tables.specs.inside.NamedWords.{item_count}
use Rattle.cat_verify_tables.specs.inside.Entries.{AreTold}
use Rattle.cat_verify_tables.specs.inside.ItemWords.{IsScopeOf}
use Rattle.cat_verify_tables.proofs.scoping.scopes.Given as goal

abbrev pub invariant-loop-line : goal.invariant-loop-line
invariant-loop-line l = record {
  number : l.number ≡ l.first + lines_in item_count (take l.line-index l.lines);
  told : AreTold (λ _. IsScopeOf l.known) [] (take l.line-index l.lines) l.scopes;
}
