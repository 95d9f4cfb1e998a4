use Rattle.cat_build.proofs.OneProgram.{not_accepted}
use Rattle.cat_build.proofs.laws.refused_pieces_are_not_accepted.Goals as goal

pub returns : goal.returns
returns c pieces refusal program other cause is =
    not_accepted c.pieces_have_one_reading.ensures c.tokens_spell_one_program.ensures c.trees_have_one_program.ensures
    c.refused_pieces_have_no_reading.ensures c.refused_trees_have_no_program.ensures
    c.refused_scopes_make_no_forest.ensures pieces program is refusal other cause
