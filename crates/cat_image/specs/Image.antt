-- An image: the text of a listing that anyone may have made, as a relation to its tables and instructions.
use Rattle.std.specs.Prelude.{◌≡◌, ◌≤◌, ◌<◌, ℕ, IsTrue, List, [], ◌∷◌, ◌++◌, map, length, codes}
use Rattle.std.specs.List.{AllByRecursion}
use Rattle.std.specs.Str.{is_utf8}
use Rattle.cat_pos.specs.Limits.{most_input_bytes}
use Rattle.cat_code.specs.declared.instr.Instr.{Instr}
use Rattle.cat_image.specs.declared.tables.ImageTables.{ImageTables}
use Rattle.cat_image.specs.Words.{Text, parts}
use Rattle.cat_image.specs.Rows.{row_text, IsRow, rows_of}

-- the lines of an image, the first one with the version
abbrev pub image_lines : ImageTables → List Instr → List Text
image_lines tables instructions = codes "catala-code 1" ∷ map row_text (rows_of tables instructions)

-- a text's lines, each ended by a line feed, are those of tables and instructions, of which there is one
pub record IsImage (bytes : List ℕ) (tables : ImageTables) (instructions : List Instr) : Type 0 where
  pub rows : AllByRecursion IsRow (rows_of tables instructions)
  pub some : 0 < length instructions
  pub lines : parts 10 bytes ≡ image_lines tables instructions ++ [] ∷ []
  pub texts : AllByRecursion (λ line. IsTrue (is_utf8 line)) (image_lines tables instructions)

-- of some text that may be read
abbrev pub IsSomeImage : ImageTables → List Instr → Type 0
IsSomeImage tables instructions =
    ∥ ((bytes : List ℕ) × (length bytes ≤ most_input_bytes) × IsImage bytes tables instructions) ∥₁
