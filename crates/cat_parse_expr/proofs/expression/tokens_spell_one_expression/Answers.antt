use Rattle.cat_parse_expr.proofs.Answered.{one_expression}
use Rattle.cat_parse_expr.proofs.expression.tokens_spell_one_expression.Goals as goal

pub returns : goal.returns
returns c = one_expression
