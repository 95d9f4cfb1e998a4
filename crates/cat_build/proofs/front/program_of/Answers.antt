use Rattle.cat_build.proofs.Counted.{parsed}
use Rattle.cat_build.proofs.FrontSteps.{few_all}
use Rattle.cat_build.proofs.front.program_of.Goals as goal

pub checked-requires-clause-parsed : goal.checked-requires-clause-parsed
checked-requires-clause-parsed c =
    parsed c.args.pieces.now c.args.tree c.requires.readable c.requires.spelled

pub returns-clause-few : goal.returns-clause-few
returns-clause-few c =
    let program = c.in_ok-program.program in
    few_all program.bodies
    (c.definitions_are_counted.ensures c.args.tree program.decls program.bodies c.in_ok-program.ensures.meant.meant)
