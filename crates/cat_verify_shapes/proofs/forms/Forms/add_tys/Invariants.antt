use Rattle.cat_verify_shapes.specs.inside.Senses.{Grows}
use Rattle.cat_verify_shapes.proofs.forms.Forms.add_tys.Given as goal

abbrev pub invariant-loop-ty : goal.invariant-loop-ty
invariant-loop-ty l = Grows l.fn.self l.self
