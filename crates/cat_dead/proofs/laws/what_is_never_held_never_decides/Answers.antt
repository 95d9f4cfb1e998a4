use Rattle.std.proofs.Common.{rules}
use Rattle.cat_dead.proofs.DecidesLaws.{targets_die}
use Rattle.cat_dead.proofs.laws.what_is_never_held_never_decides.Goals as goal

pub returns : goal.returns
returns c p =
    targets_die c.args.program.now c.args.table.now c.programs_are_well_formed.ensures c.requires (search rules) p
