use Rattle.std.proofs.Common.{◌≡◌, take}
use Rattle.cat_verify_shapes.specs.inside.Alike.{common_pending}
use Rattle.cat_verify_shapes.specs.inside.Zipped.{zipped}
use Rattle.cat_verify_shapes.proofs.alike.common_pending.Given as goal

abbrev pub invariant-loop-at : goal.invariant-loop-at
invariant-loop-at l = l.pending ≡ zipped common_pending (take l.at l.left) (take l.at l.right)
