use Rattle.cat_value.proofs.SoundLaws.{sound_is}
use Rattle.cat_code_sound.proofs.CodeEnds.{code_runs_to_an_end}
use Rattle.cat_code_sound.proofs.ending.valid_code_runs_to_an_end.Goals as goal

pub returns : goal.returns
returns c =
    λ tables code valid.
    code_runs_to_an_end tables code valid
    (sound_is c.the_order_is_computed.ensures c.a_cycle_leaves_no_order.ensures tables.decls)
