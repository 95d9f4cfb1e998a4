use Rattle.std.proofs.Common.{◌≡◌, ◌≤◌, ◌+◌, take}
use Rattle.cat_pos.specs.Position.{line_of, column_of}
use Rattle.cat_pos.proofs.pos.pos_at.Given as goal

-- line and column are those of the bytes walked so far
abbrev pub invariant-loop-byte : goal.invariant-loop-byte
invariant-loop-byte l = record {
  line : l.line ≡ line_of (take l.byte-index l.byte-items);
  column : l.column ≡ column_of (take l.byte-index l.byte-items);
  no_more_lines : l.line ≤ l.byte-index + 1;
  no_more_columns : l.column ≤ l.byte-index + 1;
}
