-- The lines of a text, and what is read of a line.
use Rattle.std.specs.Prelude.{ℕ, ◌==◌, ◌-◌, Bool, List, [], ◌∷◌, length, take, drop, slice_index, if◌then◌else◌}
use Rattle.std.specs.List.{prefix_len, suffix_len}
use Rattle.cat_pos.specs.Bytes.{is_blank}
use Rattle.cat_pos.specs.Position.{is_line_feed}

-- a byte in front of the first line
abbrev pub in_front : ℕ → List (List ℕ) → List (List ℕ)
in_front byte [] = (byte ∷ []) ∷ []
in_front byte (line ∷ lines) = (byte ∷ line) ∷ lines

-- the lines of a text, each with its line feed, which the last may lack
unfoldable pub lines_of : List ℕ → List (List ℕ)
lines_of [] = []
lines_of (byte ∷ bytes) = if is_line_feed byte then (byte ∷ []) ∷ lines_of bytes else in_front byte (lines_of bytes)

-- whether a text ends with a byte other than 0, and the text without it
abbrev pub last_is : ℕ → List ℕ → Bool
last_is byte text = slice_index text (length text - 1) == byte

-- a text without this byte at its end, where it ends so
unfoldable pub without_last : ℕ → List ℕ → List ℕ
without_last byte text = if last_is byte text then take (length text - 1) text else text

-- a line without its line feed, and without a carriage return just before that
unfoldable pub without_end : List ℕ → List ℕ
without_end line = if last_is 10 line then without_last 13 (without_last 10 line) else line

-- a text without the blanks at its end, and at its beginning
unfoldable pub without_last_blanks : List ℕ → List ℕ
without_last_blanks text = take (length text - suffix_len is_blank text) text

-- a text without the blanks that it begins with
unfoldable pub without_first_blanks : List ℕ → List ℕ
without_first_blanks text = drop (prefix_len is_blank text) text

-- what is read of a line: neither its end nor the blanks before that
abbrev pub bare : List ℕ → List ℕ
bare line = without_last_blanks (without_end line)
