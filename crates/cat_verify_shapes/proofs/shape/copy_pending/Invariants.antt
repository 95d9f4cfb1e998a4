use Rattle.std.proofs.Common.{◌≡◌, take}
use Rattle.cat_verify_shapes.proofs.shape.copy_pending.Given as goal

abbrev pub invariant-loop-frame : goal.invariant-loop-frame
invariant-loop-frame l = l.copies ≡ take l.frame-index l.pending
