use Rattle.std.proofs.Common.{take}
use Rattle.cat_verify_shapes.specs.inside.Alike.{ArePassed}
use Rattle.cat_verify_shapes.proofs.alike.are_passed.Given as goal

abbrev pub invariant-loop-at : goal.invariant-loop-at
invariant-loop-at l = ArePassed (take l.at l.pending) (take l.at l.others)
