use Rattle.cat_build.proofs.FrontSteps.{few_all}
use Rattle.cat_build.proofs.laws.accepted_programs_are_counted.Goals as goal

pub returns-clause-definitions : goal.returns-clause-definitions
returns-clause-definitions c pieces program is =
    few_all program.bodies (c.definitions_are_counted.ensures is.program_is.tree program.decls program.bodies
    is.program_is.meant.meant)

pub returns-clause-cases : goal.returns-clause-cases
returns-clause-cases c pieces program is =
    c.cases_are_counted.ensures is.program_is.tree program.decls program.bodies is.program_is.meant.meant
