-- What each line of a literate source is.
use Rattle.std.specs.Prelude.{ℕ, ◌+◌, ◌==◌, nat_le, nat_eq, ◌&&◌, ◌||◌, Bool, true, false, List, [], ◌∷◌, drop}
use Rattle.std.specs.Prelude.{bytes_eq, codes, slice_index, if◌then◌else◌}
use Rattle.std.specs.List.{starts_with, prefix_len}
use Rattle.cat_pos.specs.Bytes.{is_blank}
use Rattle.cat_weave.specs.Lines.{bare, without_first_blanks}

-- what a line of a source is, with the text that is read in it
pub data Kind : Type 0 where
  LawLine : Kind
  OpeningLine : Kind
  CodeLine : List ℕ → Kind
  ClosingLine : Kind
  HeadingLine : ℕ → List ℕ → Kind
  IncludeLine : List ℕ → Kind

-- the lines that open a block, and the one that closes it
abbrev pub is_opening : List ℕ → Bool
is_opening line = bytes_eq line (codes "```catala") || bytes_eq line (codes "```catala-metadata")

-- three backquotes alone close a block
abbrev pub is_closing : List ℕ → Bool
is_closing line = bytes_eq line (codes "```")

-- the sign of a heading
abbrev pub is_hash : ℕ → Bool
is_hash byte = byte == 35

-- how many `#` a line begins with
unfoldable pub level_of : List ℕ → ℕ
level_of line = prefix_len is_hash line

-- a heading begins with one to six `#` and a blank, and its text is the rest
abbrev pub is_heading : List ℕ → Bool
is_heading line = nat_le 1 (level_of line) && (nat_le (level_of line) 6 && is_blank (slice_index line (level_of line)))

-- a heading with its level, and the text behind its `#`s and a blank
abbrev pub heading_of : List ℕ → Kind
heading_of line = HeadingLine (level_of line) (drop (level_of line + 1) line)

-- an include names a file after these bytes
abbrev pub is_include : List ℕ → Bool
is_include line = starts_with nat_eq line (codes "> Include: ")

-- an include of the file that is named behind `> Include:` and blanks
abbrev pub include_of : List ℕ → Kind
include_of line = IncludeLine (without_first_blanks (drop 11 line))

-- what is read so in a line outside every block
unfoldable pub law_kind : List ℕ → Kind
law_kind line =
    if is_opening line then OpeningLine
    else if is_heading line then heading_of line
    else if is_include line then include_of line
    else LawLine

-- a line inside a block is code unless it closes the block
unfoldable pub kind_of : Bool → List ℕ → Kind
kind_of false line = law_kind (bare line)
kind_of true line = if is_closing (bare line) then ClosingLine else CodeLine line

-- a block goes on after its opening line and after its code lines
abbrev pub stays_inside : Kind → Bool
stays_inside OpeningLine = true
stays_inside (CodeLine text) = true
stays_inside _ = false

-- what the lines are, the first of which stands inside a block or outside
unfoldable pub kinds_of : Bool → List (List ℕ) → List Kind
kinds_of inside [] = []
kinds_of inside (line ∷ lines) = kind_of inside line ∷ kinds_of (stays_inside (kind_of inside line)) lines
