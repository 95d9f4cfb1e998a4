-- The position of an offset in a file, by what stands in front of it.
use Rattle.std.specs.Prelude.{◌==◌, ◌+◌, ◌*◌, ◌/◌, ◌%◌, ℕ, Bool, List, ◌++◌, length, take, count_by, slice_get, Option}
use Rattle.std.specs.Prelude.{codes}
use Rattle.std.specs.Option.{option_map}
use Rattle.std.specs.List.{after_last}
use Rattle.std.specs.Fmt.{decimal}
use Rattle.cat_pos.specs.declared.limits.TheConstants.{MOST_FILES}
use Rattle.cat_pos.specs.declared.pos.Pos.{Pos}

-- the position at a line and a column of a file: its place is the column times 64, and the number of the file
abbrev pub pos_of : ℕ → ℕ → ℕ → Pos
pos_of file line column = record { line = line; place = column * MOST_FILES + file }

-- the number of its file
abbrev pub pos_file : Pos → ℕ
pos_file pos = pos.place % MOST_FILES

-- its column in bytes, from 1
abbrev pub pos_column : Pos → ℕ
pos_column pos = pos.place / MOST_FILES

-- a line ends at a line feed
abbrev pub is_line_feed : ℕ → Bool
is_line_feed byte = byte == 10

-- the line of a position with these bytes in front: 1 and their line feeds
unfoldable pub line_of : List ℕ → ℕ
line_of front = 1 + count_by is_line_feed front

-- the column of a position with these bytes in front: 1 and those after the last line feed
unfoldable pub column_of : List ℕ → ℕ
column_of front = 1 + length (after_last is_line_feed front)

-- the position of an offset in a file of this text
abbrev pub position_of : List ℕ → ℕ → ℕ → Pos
position_of text file offset =
    pos_of file (line_of (take offset text)) (column_of (take offset text))

-- the text `name:line:column`, where the file has a name
abbrev pub shown : List (List ℕ) → Pos → Option (List ℕ)
shown names pos =
    option_map (λ name. name ++ (codes ":" ++ (decimal pos.line ++ (codes ":" ++ decimal (pos_column pos)))))
    (slice_get names (pos_file pos))
