use Rattle.std.proofs.Common.{◌≡◌, take}
use Rattle.cat_calc.proofs.scopes.copy_assertions.Given as goal

abbrev pub invariant-loop-assertion : goal.invariant-loop-assertion
invariant-loop-assertion l = l.copies ≡ take l.assertion-index l.assertions
