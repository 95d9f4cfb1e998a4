use Rattle.cat_lex.proofs.Chars.{seam}
use Rattle.cat_lex.proofs.lexer.tail.Goals as goal

pub range_from-requires : goal.range_from-requires
range_from-requires c = λ some. seam _ c.requires.suffix.0 _ c.requires.suffix.1 c.requires.utf8
