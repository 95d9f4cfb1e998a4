use Rattle.std.proofs.Common.{◌≡◌, replicate}
use Rattle.cat_verify_shapes.specs.declared.found.Spot.TheVariants.{Unmet}
use Rattle.cat_verify_shapes.proofs.found.unmet.Given as goal

abbrev pub invariant-loop : goal.invariant-loop
invariant-loop l = l.found.items ≡ replicate l.counter Unmet
