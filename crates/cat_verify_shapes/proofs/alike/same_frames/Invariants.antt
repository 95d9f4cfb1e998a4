use Rattle.std.proofs.Common.{take}
use Rattle.cat_verify_shapes.specs.inside.Alike.{AreAlikeFrames}
use Rattle.cat_verify_shapes.proofs.alike.same_frames.Given as goal

abbrev pub invariant-loop-at : goal.invariant-loop-at
invariant-loop-at l = AreAlikeFrames (take l.at l.left) (take l.at l.right)
