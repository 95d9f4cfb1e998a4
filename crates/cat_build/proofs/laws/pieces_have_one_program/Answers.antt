use Rattle.cat_build.proofs.OneProgram.{program_is}
use Rattle.cat_build.proofs.laws.pieces_have_one_program.Goals as goal

pub returns : goal.returns
returns c pieces program other is also =
    program_is c.pieces_have_one_reading.ensures c.tokens_spell_one_program.ensures c.trees_have_one_program.ensures
    pieces program other is.program_is also.program_is
