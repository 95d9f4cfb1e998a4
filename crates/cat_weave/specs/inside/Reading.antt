-- What the code reads of a line, and in one step.
use Rattle.std.specs.Prelude.{◌≡◌, ◌≢◌, ℕ, zero, suc, ◌+◌, true, false, List, [], ◌∷◌, ◌++◌, length, Option, Some}
use Rattle.std.specs.Prelude.{if◌then◌else◌}
use Rattle.std.specs.List.{concat}
use Rattle.std.specs.Option.{option_to_list}
use Rattle.cat_pos.specs.Position.{is_line_feed}
use Rattle.cat_pos.specs.declared.pos.Pos.{Pos}
use Rattle.cat_weave.specs.Lines.{lines_of}
use Rattle.cat_weave.specs.Kinds.{Kind, LawLine, OpeningLine, CodeLine, HeadingLine, IncludeLine, kinds_of}
use Rattle.cat_weave.specs.Woven.{line_position, segments_from, unclosed}
use Rattle.cat_weave.specs.declared.segment.Segment.{Segment}
use Rattle.cat_weave.specs.declared.segment.Segment.TheVariants.{Code}
use Rattle.cat_weave.specs.declared.segment.WeaveRefusal.{WeaveRefusal}
use Rattle.cat_weave.specs.declared.segment.WeaveRefusal.TheVariants.{FenceOpen, Memory}
use Rattle.cat_weave.specs.declared.line.Line.{Line}
use Rattle.cat_weave.specs.declared.line.Line.TheVariants.{Law, Opening, Heading, Include}

-- how long the first line of a text is
abbrev pub line_length : List ℕ → ℕ
line_length [] = 0
line_length (byte ∷ bytes) = if is_line_feed byte then 1 else line_length bytes + 1

-- what a line is that is read so
abbrev pub kind_read : Line → Kind
kind_read Law = LawLine
kind_read Opening = OpeningLine
kind_read (Heading level text) = HeadingLine level text.now
kind_read (Include path) = IncludeLine path.now

-- what the lines of a text are that begins outside a block, or inside
abbrev pub law_kinds : List ℕ → List Kind
law_kinds text = kinds_of false (lines_of text)

-- what the lines of a text are that begins inside a block
abbrev pub block_kinds : List ℕ → List Kind
block_kinds text = kinds_of true (lines_of text)

-- lines of code, whatever they say
abbrev pub code_lines : List (List ℕ) → List Kind
code_lines [] = []
code_lines (text ∷ texts) = CodeLine text ∷ code_lines texts

-- these lines are so many code lines of this text together, and then the rest
pub record IsCodeBefore (lines : List Kind) (code : List ℕ) (count : ℕ) (rest : List Kind) : Type 0 where
  pub texts : List (List ℕ)
  pub many : length texts ≡ count
  pub joined : concat texts ≡ code
  pub whole : lines ≡ code_lines texts ++ rest

-- the piece of so many code lines
abbrev pub code_segment : Pos → List ℕ → ℕ → List Segment
code_segment pos code zero = []
code_segment pos code (suc count) = Code (record { text = code; pos = pos }) ∷ []

-- the lines from n on give this segment, if any, and then what the rest gives from a later line on
pub record IsStep (file n : ℕ) (lines : List Kind) (segment : Option Segment) (count : ℕ)
    (rest : List Kind) : Type 0 where
  pub segments : segments_from file false n lines ≡ option_to_list segment ++ segments_from file false (n + count) rest
  pub opened : unclosed n lines ≡ unclosed (n + count) rest

-- the block that opens in line n isn't closed
abbrev pub IsOpen : ℕ → ℕ → List Kind → WeaveRefusal → Type 0
IsOpen file n lines refusal = refusal ≢ Memory →
    (refusal ≡ FenceOpen (line_position file n)) × (unclosed n lines ≡ Some n)
