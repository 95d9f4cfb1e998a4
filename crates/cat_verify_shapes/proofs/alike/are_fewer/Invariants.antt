use Rattle.std.proofs.Common.{take}
use Rattle.cat_code.specs.Shapes.{AreFewer}
use Rattle.cat_verify_shapes.proofs.alike.are_fewer.Given as goal

abbrev pub invariant-loop-at : goal.invariant-loop-at
invariant-loop-at l = AreFewer (take l.at l.flags) (take l.at l.others)
