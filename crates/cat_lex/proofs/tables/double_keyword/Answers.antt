use Rattle.std.proofs.Common.{◌∙◌, refl}
use Rattle.cat_lex.specs.Words.{double_keywords}
use Rattle.cat_lex.proofs.tables.double_keyword.Goals as goal

pub returns : goal.returns
unfolding double_keywords
returns c = c.look_up_pair.ensures ∙ refl
