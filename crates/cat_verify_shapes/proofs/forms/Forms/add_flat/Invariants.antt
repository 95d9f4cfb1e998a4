use Rattle.cat_verify_shapes.specs.inside.Senses.{Grows}
use Rattle.cat_verify_shapes.proofs.forms.Forms.add_flat.Given as goal

abbrev pub invariant-loop-form : goal.invariant-loop-form
invariant-loop-form l = Grows l.fn.self l.self
