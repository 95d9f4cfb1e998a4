use Rattle.cat_parse.proofs.Exact.{program_exact}
use Rattle.cat_parse.proofs.laws.programs_are_read_exactly.Goals as goal

pub returns : goal.returns
returns c = program_exact
