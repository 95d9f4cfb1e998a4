use Rattle.cat_parse.proofs.Reading.{reads_expressions}
use Rattle.cat_parse.proofs.laws.expressions_are_read_rightly.Goals as goal

pub returns : goal.returns
returns c = reads_expressions 256
