use Rattle.cat_value.proofs.SoundLaws.{sound_is}
use Rattle.cat_value.proofs.laws.declarations_are_sound.Goals as goal

pub returns : goal.returns
returns c = sound_is c.the_order_is_computed.ensures c.a_cycle_leaves_no_order.ensures c.args.decls.now
