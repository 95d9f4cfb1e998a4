use Rattle.std.proofs.Common.{◌≤◌, length}
use Rattle.cat_verify_shapes.specs.inside.Senses.{Grows}
use Rattle.cat_verify_shapes.proofs.forms.Forms.add_row.Given as goal

abbrev pub invariant-loop-left : goal.invariant-loop-left
invariant-loop-left l = record { within : l.left ≤ length l.operands; grows : Grows l.fn.self l.self }

abbrev pub decreases-loop-left : goal.decreases-loop-left
decreases-loop-left l = l.left
