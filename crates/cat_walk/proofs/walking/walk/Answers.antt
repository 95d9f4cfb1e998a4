use Rattle.cat_walk.proofs.ClosedLaws.{yes_is_closed}
use Rattle.cat_walk.proofs.walking.walk.Goals as goal

pub returns-clause-closed : goal.returns-clause-closed
returns-clause-closed c =
    let table = c.args.table.now in
    yes_is_closed table.terms table.atoms table.targets c.args.target c.covered_trees_are_closed.ensures
    c.args.region.now c.room-room.ensures.sound c.requires.dims c.args.tree.now c.walked-found.result
    c.walked-found.ensures.first
