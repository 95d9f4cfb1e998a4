use Rattle.std.proofs.Common.{◌≡◌, ◌++◌, drop}
use Rattle.cat_audit.specs.Called.{scope_lines}
use Rattle.cat_audit.specs.inside.Underway.{verdict_at}
use Rattle.cat_audit.proofs.called.add_scopes.Given as goal

abbrev pub invariant-loop-number : goal.invariant-loop-number
invariant-loop-number l =
    l.lines ++ scope_lines (verdict_at l.verdicts) l.scopes (drop l.number-index l.numbers)
    ≡ l.fn.lines ++ scope_lines (verdict_at l.verdicts) l.scopes l.numbers
