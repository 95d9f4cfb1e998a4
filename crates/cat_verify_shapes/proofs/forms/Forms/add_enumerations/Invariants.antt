use Rattle.cat_verify_shapes.specs.inside.Senses.{Grows}
use Rattle.cat_verify_shapes.proofs.forms.Forms.add_enumerations.Given as goal

abbrev pub invariant-loop-number : goal.invariant-loop-number
invariant-loop-number l = Grows l.fn.self l.self
