use Rattle.std.proofs.Common.{◌≡◌, take}
use Rattle.cat_verify_shapes.specs.inside.Zipped.{both}
use Rattle.cat_verify_shapes.proofs.alike.common_flags.Given as goal

abbrev pub invariant-loop-at : goal.invariant-loop-at
invariant-loop-at l = l.flags ≡ both (take l.at l.left) (take l.at l.right)
