use Rattle.std.proofs.Common.{◌≡◌, ◌++◌, drop}
use Rattle.cat_verify.specs.inside.OwnerNumbers.{placed_from}
use Rattle.cat_verify.proofs.owners.placed.Given as goal

abbrev pub invariant-loop-at : goal.invariant-loop-at
invariant-loop-at l = l.members ++ placed_from l.at (drop l.at l.marks) ≡ placed_from 0 l.marks
