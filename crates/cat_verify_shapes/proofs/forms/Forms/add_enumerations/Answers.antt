use Rattle.cat_verify_shapes.proofs.PassLemmas.{grows_then}
use Rattle.cat_verify_shapes.proofs.forms.Forms.add_enumerations.Goals as goal

pub loop-number-preserved : goal.loop-number-preserved
loop-number-preserved c =
    grows_then c.args.self.now c.loop-number.self c.add_enumeration.new.self c.loop-number.invariant
    c.in_ok-add_enumeration.ensures
