use Rattle.cat_lex.proofs.FilePositions.{positions}
use Rattle.cat_lex.proofs.laws.positions_are_those_of_the_file.Goals as goal

pub returns : goal.returns
returns c text file offset front rest known is = positions text file offset front rest known is
