use Rattle.std.proofs.Common.{◌≡◌, ◌≤◌, ◌+◌, drop}
use Rattle.cat_pos.specs.Position.{pos_of, pos_file, pos_column}
use Rattle.cat_lex.specs.Positions.{position_after}
use Rattle.cat_lex.proofs.lexer.position_after.Given as goal

abbrev pub invariant-loop-byte : goal.invariant-loop-byte
invariant-loop-byte l = record {
  position : position_after (pos_of (pos_file l.fn.pos) l.line l.column)
      (drop l.byte-index l.bytes)
      ≡ position_after l.fn.pos l.bytes;
  line : l.line ≤ l.fn.pos.line + l.byte-index;
  column : l.column ≤ pos_column l.fn.pos + l.byte-index;
}
