use Rattle.std.proofs.Common.{◌≡◌, ◌++◌, drop}
use Rattle.cat_verify.specs.inside.Starts.{scope_arrivals}
use Rattle.cat_verify.proofs.starts.add_scoped.Given as goal

abbrev pub invariant-loop-at : goal.invariant-loop-at
invariant-loop-at l =
    l.arrivals ++ scope_arrivals (drop l.at l.functions) (drop l.at l.entries)
    ≡ l.fn.arrivals ++ scope_arrivals l.functions l.entries
