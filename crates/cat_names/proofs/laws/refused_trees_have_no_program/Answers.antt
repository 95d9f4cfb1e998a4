use Rattle.cat_value.proofs.SoundLaws.{sound_is}
use Rattle.cat_names.proofs.RefusedLaws.{not_refused}
use Rattle.cat_names.proofs.laws.refused_trees_have_no_program.Goals as goal

pub returns : goal.returns
returns c tree decls bodies scope_order fault is h =
    let none = c.a_cycle_leaves_no_order.ensures in
    not_refused none decls (sound_is c.the_order_is_computed.ensures none decls) tree bodies scope_order is fault h
