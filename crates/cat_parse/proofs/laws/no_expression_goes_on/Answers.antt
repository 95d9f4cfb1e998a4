use Rattle.cat_parse.proofs.Ending.{ends_before}
use Rattle.cat_parse.proofs.laws.no_expression_goes_on.Goals as goal

pub returns : goal.returns
returns c = ends_before
