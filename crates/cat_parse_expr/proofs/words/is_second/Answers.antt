use Rattle.std.proofs.Common.{sym, ◌∙◌}
use Rattle.cat_parse_expr.proofs.Seconds.{second_is}
use Rattle.cat_parse_expr.proofs.words.is_second.Goals as goal

pub returns-then-at-tokens : goal.returns-then-at-tokens
returns-then-at-tokens c = c.is_next.ensures ∙ sym (second_is _ c.args.at c.args.tokens.now)
