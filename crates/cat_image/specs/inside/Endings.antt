-- Where a line leads, and how reading ends.
use Rattle.std.specs.Prelude.{◌≡◌, ℕ, ◌+◌, List, [], ◌∷◌, Option, Some, None}
use Rattle.std.specs.Prelude.{Result, Ok, Err, codes, if◌then◌else◌}
use Rattle.std.specs.Str.{bytes_eq, is_utf8}
use Rattle.cat_code.specs.declared.instr.Instr.{Instr}
use Rattle.cat_image.specs.declared.refusal.ImageRefusal.{ImageRefusal}
use Rattle.cat_image.specs.declared.refusal.ImageRefusal.TheVariants as refusal
use Rattle.cat_image.specs.declared.reading.Reading.{Reading}
use Rattle.cat_image.specs.Words.{Text}
use Rattle.cat_image.specs.inside.Reads.{when}
use Rattle.cat_image.specs.inside.ReadRows.{row_read}
use Rattle.cat_image.specs.inside.Reading.{nothing_read}
use Rattle.cat_image.specs.inside.Putting.{put}

-- a line as text
abbrev pub text_in : Text → Option Text
text_in line = if is_utf8 line then Some line else None

-- behind a line, where it is due
abbrev pub taken : Reading → Text → Option Reading
taken r line = when (text_in line) (λ text. when (row_read text) (put r))

-- at the end, with what stands behind the last line feed
abbrev pub ended : Reading → List Instr → Text → Result Reading ImageRefusal
ended r [] rest = Err refusal.Short
ended r (i ∷ is) [] = Ok r
ended r (i ∷ is) (byte ∷ bytes) = Err refusal.Short

-- behind a line of that number, and how reading ends behind that
abbrev pub goes_on : ℕ → Option Reading → (Reading → Result Reading ImageRefusal) → Result Reading ImageRefusal
goes_on n None further = Err (refusal.BadLine n)
goes_on n (Some r) further = further r

-- how reading ends behind n lines, by the parts of the text behind them
abbrev pub ending : List Text → Reading → ℕ → Result Reading ImageRefusal
ending [] r n = Err refusal.Short
ending (rest ∷ []) r n = ended r r.instructions rest
ending (line ∷ next ∷ parts) r n = goes_on (n + 1) (taken r line) (λ s. ending (next ∷ parts) s (n + 1))

-- how it ends of a whole text
abbrev pub whole_ending : List Text → Result Reading ImageRefusal
whole_ending [] = Err refusal.Short
whole_ending (rest ∷ []) = Err refusal.Short
whole_ending (line ∷ next ∷ parts) =
    if bytes_eq line (codes "catala-code 1") then ending (next ∷ parts) nothing_read 1 else Err (refusal.BadLine 1)

-- it ends so, where memory lasts
abbrev pub EndsSo : Result Reading ImageRefusal → Result Reading ImageRefusal → Type 0
EndsSo ending (Ok r) = ending ≡ Ok r
EndsSo ending (Err (refusal.BadLine n)) = ending ≡ Err (refusal.BadLine n)
EndsSo ending (Err refusal.Short) = ending ≡ Err refusal.Short
EndsSo ending (Err refusal.Memory) = Unit {0}
