use Rattle.std.proofs.Common.{◌∙◌, refl}
use Rattle.cat_lex.specs.Words.{symbols}
use Rattle.cat_lex.proofs.tables.symbol.Goals as goal

pub returns : goal.returns
unfolding symbols
returns c = c.look_up.ensures ∙ refl
