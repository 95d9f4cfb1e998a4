use Rattle.cat_lex.proofs.Refusals.{refused}
use Rattle.cat_lex.proofs.laws.refused_pieces_have_no_reading.Goals as goal

pub returns : goal.returns
returns c = refused
