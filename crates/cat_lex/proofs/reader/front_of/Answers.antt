use Rattle.cat_lex.proofs.Chars.{seam}
use Rattle.cat_lex.proofs.reader.front_of.Goals as goal

pub range-requires-clause-end_boundary : goal.range-requires-clause-end_boundary
range-requires-clause-end_boundary c = seam _ c.requires.0 _ c.requires.1 c.utf8.rest
