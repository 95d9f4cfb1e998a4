use Rattle.std.proofs.Common.{◌∙◌, refl}
use Rattle.cat_lex.specs.Words.{double_keywords}
use Rattle.cat_lex.proofs.tables.begins_pair.Goals as goal

pub returns : goal.returns
unfolding double_keywords
returns c = c.has_first.ensures ∙ refl
