use Rattle.std.proofs.Common.{rules}
use Rattle.cat_guard.proofs.RegionLaws.{answers_so, answers_exact, cuts_of, sound_atoms}
use Rattle.cat_guard.proofs.judging_laws.regions_answer_exactly.Goals as goal

pub returns-clause-so : goal.returns-clause-so
returns-clause-so c region v is dims admits a =
    let table = c.args.table.now in
    answers_so table.atoms region is
    (cuts_of region.dims table.terms table.atoms dims
    (sound_atoms table.terms table.atoms table.targets (search rules)))
    v admits a

pub returns-clause-exact : goal.returns-clause-exact
returns-clause-exact c region is dims a atom at =
    let table = c.args.table.now in
    answers_exact table.atoms region is
    (cuts_of region.dims table.terms table.atoms dims
    (sound_atoms table.terms table.atoms table.targets (search rules)))
    a atom at
