use Rattle.cat_lex.proofs.Chars.{seam}
use Rattle.cat_lex.proofs.lexer.front.Goals as goal

pub range-requires-clause-end_boundary : goal.range-requires-clause-end_boundary
range-requires-clause-end_boundary c = seam _ c.requires.suffix.0 _ c.requires.suffix.1 c.requires.utf8
