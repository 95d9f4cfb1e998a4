-- Which headings stand over a position.
use Rattle.std.specs.Prelude.{ℕ, ◌+◌, ◌-◌, ◌&&◌, nat_eq, nat_le, Bool, List, [], ◌∷◌, Option, Some, None, slice_get}
use Rattle.std.specs.Prelude.{if◌then◌else◌}
use Rattle.std.specs.List.{prefix_len}
use Rattle.std.specs.Option.{option_or}
use Rattle.cat_pos.specs.declared.pos.Pos.{Pos}
use Rattle.cat_pos.specs.declared.pos.Piece.{Piece}
use Rattle.cat_pos.specs.Position.{pos_file}
use Rattle.cat_weave.specs.declared.segment.Heading.{Heading}
use Rattle.cat_trace.specs.declared.placing.Placed.{Placed}

-- whether a piece begins in the file of a position, and in its line or above
abbrev pub begins_by : Pos → Piece → Bool
begins_by pos piece = nat_eq (pos_file piece.pos) (pos_file pos) && nat_le piece.pos.line pos.line

-- a number, where a test passes
abbrev pub number_if : ℕ → Bool → Option ℕ
number_if n test = if test then Some n else None

-- the piece in which a position stands: the last of its file that begins by it. They are counted from n
unfoldable pub piece_from : Pos → ℕ → List Piece → Option ℕ
piece_from pos n [] = None
piece_from pos n (piece ∷ pieces) = option_or (piece_from pos (n + 1) pieces) (number_if n (begins_by pos piece))

-- whether a heading stands in front of piece n
abbrev pub is_in_front : ℕ → Heading → Bool
is_in_front n heading = nat_le heading.pieces n

-- how many headings stand in front of piece n
unfoldable pub headings_before : List Heading → ℕ → ℕ
headings_before headings n = prefix_len (is_in_front n) headings

-- how many stand in front of a piece, and none where there is no such piece
abbrev pub headings_in_front : List Heading → Option ℕ → ℕ
headings_in_front headings None = 0
headings_in_front headings (Some n) = headings_before headings n

-- how many headings stand in front of the piece of a position
abbrev pub headings_over : List Heading → List Piece → Pos → ℕ
headings_over headings pieces pos = headings_in_front headings (piece_from pos 0 pieces)

-- a position with them
abbrev pub placed_at : List Heading → List Piece → Pos → Placed
placed_at headings pieces pos = record { pos = pos; headings = headings_over headings pieces pos }

-- the last of the first so many headings
abbrev pub last_of_first : ℕ → List Heading → Option Heading
last_of_first k headings = if nat_eq k 0 then None else slice_get headings (k - 1)
