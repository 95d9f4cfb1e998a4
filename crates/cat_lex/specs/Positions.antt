-- Positions after bytes.
use Rattle.std.specs.Prelude.{ℕ, ◌+◌, if◌then◌else◌, List, [], ◌∷◌}
use Rattle.cat_pos.specs.declared.pos.Pos.{Pos}
use Rattle.cat_pos.specs.Position.{is_line_feed, pos_of, pos_file, pos_column}

-- the position after a byte, and after these bytes
abbrev pub next_position : Pos → ℕ → Pos
next_position pos byte =
    if is_line_feed byte
    then pos_of (pos_file pos) (pos.line + 1) 1
    else pos_of (pos_file pos) pos.line (pos_column pos + 1)

-- the position behind some bytes that begin at this position
abbrev pub position_after : Pos → List ℕ → Pos
position_after pos [] = pos
position_after pos (byte ∷ bytes) = position_after (next_position pos byte) bytes
