-- The pieces of one file, by their lines.
use Rattle.std.specs.Prelude.{◌≡◌, ℕ, ◌-◌, ◌<◌, nat_le, nat_lt, Bool, false, List, [], ◌∷◌, length, Option, Some}
use Rattle.std.specs.Prelude.{None, slice_get, slice_index_or, if◌then◌else◌}
use Rattle.std.specs.List.Sorted.{IsNonDecreasingBy}
use Rattle.cat_pos.specs.declared.limits.TheConstants.{MOST_FILES}
use Rattle.cat_pos.specs.declared.pos.Pos.{Pos}
use Rattle.cat_pos.specs.declared.pos.Piece.{Piece}
use Rattle.cat_pos.specs.Position.{pos_file}
use Rattle.cat_weave.specs.declared.segment.Heading.{Heading}
use Rattle.cat_trace.specs.Over.{headings_over}
use Rattle.cat_trace.specs.declared.starts.Start.{Start}

-- pieces by their lines
abbrev pub Ascend : List Start → Type 0
Ascend starts = IsNonDecreasingBy (λ (s : Start). s.line) starts

-- how many headings stand in front of the last of some pieces that begins in a line or above, or k where none does
abbrev pub headings_or : ℕ → ℕ → List Start → ℕ
headings_or line k [] = k
headings_or line k (s ∷ starts) = headings_or line (if nat_le s.line line then s.headings else k) starts

-- the same, and none where no piece does
abbrev pub headings_at : ℕ → List Start → ℕ
headings_at line starts = headings_or line 0 starts

-- whether a piece begins behind a line
abbrev pub begins_behind : ℕ → Option Start → Bool
begins_behind line None = false
begins_behind line (Some s) = nat_lt line s.line

-- whether the last one does
abbrev pub ends_behind : ℕ → List Start → Bool
ends_behind line starts = begins_behind line (slice_get starts (length starts - 1))

-- fewer pieces, in which a line above stands as it did
pub record KeepsUpTo (line : ℕ) (old new : List Start) : Type 0 where
  pub ascend : Ascend new
  pub same : (above : ℕ) → above < line → headings_at above new ≡ headings_at above old

-- how many headings stand in front of a piece, where a line stands in it, or else of another one
abbrev pub with_start : ℕ → Start → ℕ → ℕ
with_start line s others = if nat_le s.line line then s.headings else others

-- one piece more stands behind the others
abbrev pub Puts : Start → List Start → List Start → Type 0
Puts s old new = (line : ℕ) → headings_at line new ≡ with_start line s (headings_at line old)

-- the pieces of a file
abbrev pub starts_in : List (List Start) → ℕ → List Start
starts_in lists file = slice_index_or lists file []

-- the pieces of each file
pub record AreStarts (headings : List Heading) (pieces : List Piece) (lists : List (List Start)) : Type 0 where
  pub files : length lists ≡ MOST_FILES
  pub ascend : (file : ℕ) → Ascend (starts_in lists file)
  pub over : (pos : Pos) → headings_at pos.line (starts_in lists (pos_file pos)) ≡ headings_over headings pieces pos
