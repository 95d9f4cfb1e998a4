use Rattle.cat_names.proofs.WholeLaws.{well_formed}
use Rattle.cat_names.proofs.laws.programs_of_trees_are_well_formed.Goals as goal

pub returns : goal.returns
returns c tree bodies scope_order is =
    well_formed c.args.decls.now c.declarations_are_sound.ensures tree bodies scope_order is
