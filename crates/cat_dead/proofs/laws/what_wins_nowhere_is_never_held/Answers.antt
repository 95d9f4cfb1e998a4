use Rattle.std.proofs.Common.{rules}
use Rattle.cat_dead.proofs.HeldLaws.{never_held}
use Rattle.cat_dead.proofs.laws.what_wins_nowhere_is_never_held.Goals as goal

pub returns : goal.returns
returns c =
    let table = c.args.table.now in
    never_held table.terms table.atoms table.targets (search rules) c.judgings_of_regions_hold.ensures
