use Rattle.std.proofs.Common.{take}
use Rattle.cat_verify_shapes.specs.inside.Alike.{AreChecked}
use Rattle.cat_verify_shapes.proofs.alike.are_checked.Given as goal

abbrev pub invariant-loop-at : goal.invariant-loop-at
invariant-loop-at l = AreChecked (take l.at l.frames) (take l.at l.others)
