-- The segments of a literate source.
use Rattle.std.specs.Prelude.{◌≡◌, ℕ, ◌+◌, ◌≤◌, Bool, true, false, List, [], ◌∷◌, ◌++◌, length, Result, Ok, Err}
use Rattle.std.specs.Prelude.{Option, Some, None, All, if◌then◌else◌}
use Rattle.std.specs.Str.{is_utf8}
use Rattle.std.specs.Str.Lossy.{utf8_valid_len}
use Rattle.cat_pos.specs.Position.{pos_of, position_of}
use Rattle.cat_pos.specs.declared.pos.Pos.{Pos}
use Rattle.cat_weave.specs.Lines.{lines_of}
use Rattle.cat_weave.specs.Kinds.{Kind, OpeningLine, CodeLine, ClosingLine, HeadingLine, IncludeLine, kinds_of}
use Rattle.cat_weave.specs.declared.segment.Segment.{Segment}
use Rattle.cat_weave.specs.declared.segment.Segment.TheVariants.{Code, Heading, Include}
use Rattle.cat_weave.specs.declared.segment.Woven.{Woven}
use Rattle.cat_weave.specs.declared.segment.WeaveRefusal.{WeaveRefusal}
use Rattle.cat_weave.specs.declared.segment.WeaveRefusal.TheVariants.{NotUtf8, FenceOpen}

-- where line n begins
abbrev pub line_position : ℕ → ℕ → Pos
line_position file n = pos_of file n 1

-- the text of the code lines that these lines begin with
unfoldable pub code_text : List Kind → List ℕ
code_text [] = []
code_text (CodeLine text ∷ lines) = text ++ code_text lines
code_text (_ ∷ lines) = []

-- a line of code in a block
abbrev pub is_code : Kind → Bool
is_code (CodeLine text) = true
is_code _ = false

-- the segment that begins in a line: a code line that stands after another begins none, and a piece has all code
-- lines up to the next other line
abbrev pub segment_at : Pos → Bool → Kind → List Kind → List Segment
segment_at pos false (CodeLine text) lines = Code (record { text = text ++ code_text lines; pos = pos }) ∷ []
segment_at pos after_code (HeadingLine level text) lines = Heading level text pos ∷ []
segment_at pos after_code (IncludeLine path) lines = Include path pos ∷ []
segment_at pos after_code _ lines = []

-- the segments that begin in these lines, the first of which is line n and may stand after a code line
unfoldable pub segments_from : ℕ → Bool → ℕ → List Kind → List Segment
segments_from file after_code n [] = []
segments_from file after_code n (line ∷ lines) =
    segment_at (line_position file n) after_code line lines ++ segments_from file (is_code line) (n + 1) lines

-- whether some line closes a block
unfoldable pub closes : List Kind → Bool
closes [] = false
closes (ClosingLine ∷ lines) = true
closes (_ ∷ lines) = closes lines

-- the first opening line, counted from n, with no closing line after it
unfoldable pub unclosed : ℕ → List Kind → Option ℕ
unclosed n [] = None
unclosed n (OpeningLine ∷ lines) = if closes lines then unclosed (n + 1) lines else Some n
unclosed n (_ ∷ lines) = unclosed (n + 1) lines

-- a refusal where a block is left open, which began in that line; else the segments
abbrev pub woven_unless : ℕ → Option ℕ → List Segment → Result Woven WeaveRefusal
woven_unless file None segments = Ok (record { segments = segments })
woven_unless file (Some n) segments = Err (FenceOpen (line_position file n))

-- what weaving these lines gives
abbrev pub woven_lines : ℕ → List Kind → Result Woven WeaveRefusal
woven_lines file lines = woven_unless file (unclosed 1 lines) (segments_from file false 1 lines)

-- what weaving a file gives
unfoldable pub woven : List ℕ → ℕ → Result Woven WeaveRefusal
woven bytes file =
    if is_utf8 bytes then woven_lines file (kinds_of false (lines_of bytes))
    else Err (NotUtf8 (position_of bytes file (utf8_valid_len bytes)))

-- how much code a segment has, and some segments together
abbrev pub code_size : Segment → ℕ
code_size (Code piece) = length piece.text
code_size _ = 0

-- the bytes of code in some segments together
abbrev pub code_total : List Segment → ℕ
code_total [] = 0
code_total (segment ∷ segments) = code_size segment + code_total segments

-- where a segment begins
abbrev pub segment_position : Segment → Pos
segment_position (Code piece) = piece.pos
segment_position (Heading level text pos) = pos
segment_position (Include path pos) = pos

-- a segment stands at a line's beginning, at most so far down in its file
pub record IsLineStart (file lines : ℕ) (pos : Pos) : Type 0 where
  pub begins : pos ≡ line_position file pos.line
  pub within : pos.line ≤ lines

-- segments of a file of at most so many bytes
pub record AreWithin (size file : ℕ) (segments : List Segment) : Type 0 where
  pub few : length segments ≤ size
  pub code : code_total segments ≤ size
  pub starts : All (λ segment. IsLineStart file size (segment_position segment)) segments
