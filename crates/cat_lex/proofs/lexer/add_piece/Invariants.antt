use Rattle.std.proofs.Common.{◌≤◌, ◌+◌, length}
use Rattle.std.specs.Str.{IsUtf8}
use Rattle.cat_pos.specs.Position.{pos_column}
use Rattle.cat_pos.specs.declared.limits.TheConstants.{LAST_LINE, MOST_FILE_BYTES}
use Rattle.cat_lex.proofs.PieceSteps.{HasAdded}
use Rattle.cat_lex.proofs.lexer.add_piece.Given as goal

abbrev pub invariant-loop-first : goal.invariant-loop-first
invariant-loop-first l = record {
  utf8 : IsUtf8 l.text;
  added : HasAdded l.piece l.fn.tokens l.tokens l.text l.pos;
  line : l.pos.line + length l.text ≤ LAST_LINE + MOST_FILE_BYTES;
  column : pos_column l.pos + length l.text ≤ LAST_LINE + MOST_FILE_BYTES;
}

abbrev pub decreases-loop-first : goal.decreases-loop-first
decreases-loop-first l = length l.text
