-- Why bytes are the text of no image: the first line with which none goes on, or an end before an image's.
use Rattle.std.specs.Prelude.{◌≡◌, ℕ, suc, ◌<◌, List, [], ◌∷◌, ◌++◌, length, take}
use Rattle.cat_code.specs.declared.instr.Instr.{Instr}
use Rattle.cat_image.specs.declared.refusal.ImageRefusal.{ImageRefusal}
use Rattle.cat_image.specs.declared.refusal.ImageRefusal.TheVariants.{BadLine, Short, Memory}
use Rattle.cat_image.specs.declared.tables.ImageTables.{ImageTables}
use Rattle.cat_image.specs.Words.{Text, parts}
use Rattle.cat_image.specs.Image.{IsImage}

-- the parts but for the last one
abbrev pub all_but_last : List Text → List Text
all_but_last [] = []
all_but_last (part ∷ []) = []
all_but_last (part ∷ more ∷ parts) = part ∷ all_but_last (more ∷ parts)

-- the lines of a text, each in front of its line feed; what stands behind the last line feed is no line
abbrev pub lines_of : Text → List Text
lines_of text = all_but_last (parts 10 text)

-- some image begins with these lines
pub record IsFront (lines : List Text) : Type 0 where
  pub bytes : List ℕ
  pub tables : ImageTables
  pub instructions : List Instr
  pub rest : List Text
  pub image : IsImage bytes tables instructions
  pub lines_are : lines_of bytes ≡ lines ++ rest

-- why bytes are refused
abbrev pub HasCause : List ℕ → ImageRefusal → Type 0
HasCause bytes (BadLine n) =
    (before : ℕ) × (n ≡ suc before) × (before < length (lines_of bytes)) × IsFront (take before (lines_of bytes))
    × (IsFront (take n (lines_of bytes)) → ⊥)
HasCause bytes Short =
    IsFront (lines_of bytes)
    × ((tables : ImageTables) (instructions : List Instr) → IsImage bytes tables instructions → ⊥)
HasCause bytes Memory = Unit {0}
