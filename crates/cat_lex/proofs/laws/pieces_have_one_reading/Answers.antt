use Rattle.cat_lex.proofs.Sequences.{once}
use Rattle.cat_lex.proofs.laws.pieces_have_one_reading.Goals as goal

pub returns : goal.returns
returns c = once
