use Rattle.cat_verify_shapes.specs.inside.Senses.{Grows}
use Rattle.cat_verify_shapes.proofs.forms.Forms.add_scope.Given as goal

abbrev pub invariant-loop-item : goal.invariant-loop-item
invariant-loop-item l = Grows l.fn.self l.self
