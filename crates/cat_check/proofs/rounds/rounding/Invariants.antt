use Rattle.std.proofs.Common.{◌≡◌, drop}
use Rattle.cat_check.specs.inside.Differing.{any_differs}
use Rattle.cat_check.proofs.rounds.rounding.Given as goal

abbrev pub invariant-loop-round : goal.invariant-loop-round
invariant-loop-round l = any_differs l.first l.rest ≡ any_differs l.first (drop l.round-index l.rest)
