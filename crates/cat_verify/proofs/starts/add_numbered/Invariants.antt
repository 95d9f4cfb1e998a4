use Rattle.std.proofs.Common.{◌≡◌, ◌++◌, drop}
use Rattle.cat_verify.specs.inside.Starts.{arrivals_from}
use Rattle.cat_verify.proofs.starts.add_numbered.Given as goal

abbrev pub invariant-loop-at : goal.invariant-loop-at
invariant-loop-at l =
    l.arrivals ++ arrivals_from l.first l.at (drop l.at l.entries) ≡ l.fn.arrivals ++ arrivals_from l.first 0 l.entries
