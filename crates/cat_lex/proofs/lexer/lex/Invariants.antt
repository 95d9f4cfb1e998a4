use Rattle.std.proofs.Common.{take}
use Rattle.cat_lex.specs.Lexes.{Lexes}
use Rattle.cat_lex.proofs.lexer.lex.Given as goal

-- the pieces so far are the tokens so far
abbrev pub invariant-loop-piece : goal.invariant-loop-piece
invariant-loop-piece l = Lexes (take l.piece-index l.pieces) l.tokens
