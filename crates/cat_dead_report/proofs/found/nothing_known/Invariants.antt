use Rattle.std.proofs.Common.{◌≡◌}
use Rattle.cat_dead_report.specs.inside.Knowing.{nothing_known}
use Rattle.cat_dead_report.proofs.found.nothing_known.Given as goal

abbrev pub invariant-loop : goal.invariant-loop
invariant-loop l = l.known.items ≡ nothing_known l.counter
