use Rattle.std.proofs.Common.{◌≡◌, ◌++◌, drop}
use Rattle.cat_guard.specs.Valuations.{dims_of}
use Rattle.cat_guard.proofs.regions.dims.Given as goal

abbrev pub invariant-loop-term : goal.invariant-loop-term
invariant-loop-term l = l.dims ++ dims_of (drop l.term-index l.terms) ≡ dims_of l.terms
