use Rattle.std.proofs.Common.{rules}
use Rattle.cat_walk.proofs.ClosedLaws.{trees_closed}
use Rattle.cat_walk.proofs.laws.covered_trees_are_closed.Goals as goal

pub returns : goal.returns
returns c =
    let table = c.args.table.now in
    trees_closed table.terms table.atoms table.targets (search rules) c.covered_leaves_are_closed.ensures
