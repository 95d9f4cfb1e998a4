use Rattle.std.proofs.Common.{arith}
use Rattle.cat_image.proofs.SplitLemmas.{split_is}
use Rattle.cat_verify_tables.proofs.holding.at_comma.Goals as goal

pub returns : goal.returns
returns c = split_is 44 c.args.text.now c.split_once.result c.split_once.ensures.cases (omega arith)
