-- How many rows a text has.
use Rattle.std.proofs.Common.{ℕ, suc, ◌+◌, ◌≤◌, ◌==◌, Bool, true, false, ◌≡◌, List, [], ◌∷◌, ◌++◌, length, map, refl}
use Rattle.std.proofs.Common.{sym, ap, ◌∙◌}
use Rattle.std.proofs.Common.{arith, length-append}
use Rattle.std.specs.Prelude.{if◌then◌else◌}
use Rattle.std.specs.Coded.{le_prop}
use Rattle.std.proofs.Math.Logic.{∥∥₁_elim}
use Rattle.std.proofs.lemmas.List.{length-map}
use Rattle.cat_code.specs.declared.instr.Instr.{Instr}
use Rattle.cat_pos.specs.Limits.{most_input_bytes}
use Rattle.cat_image.specs.declared.tables.ImageTables.{ImageTables}
use Rattle.cat_image.specs.Words.{Text, byte_before, parts}
use Rattle.cat_image.specs.Rows.{row_text, rows_of}
use Rattle.cat_image.specs.Image.{image_lines, IsImage, IsSomeImage}
use Rattle.cat_image.proofs.CutLemmas.{HasFirst, some_part}

before_length : (b : ℕ) (ps : List Text) → HasFirst ps → length (byte_before b ps) ≡ length ps
before_length b ps has =
    ap (λ (qs : List Text). length (byte_before b qs)) has.are ∙ sym (ap length has.are)

few_step : (byte b : ℕ) (bs : Text) (same : Bool) → length (parts byte bs) ≤ length bs + 1
    → length (if same then [] ∷ parts byte bs else byte_before b (parts byte bs)) ≤ suc (length bs) + 1
few_step byte b bs true few = omega (arith, few)
few_step byte b bs false few =
    let same = before_length b (parts byte bs) (some_part byte bs) in
    omega (arith, few, same)

few_parts : (byte : ℕ) (text : Text) → length (parts byte text) ≤ length text + 1
unfolding parts
few_parts byte [] = omega arith
few_parts byte (b ∷ bs) = few_step byte b bs (b == byte) (few_parts byte bs)

few_rows : (bytes : List ℕ) (tables : ImageTables) (is : List Instr) → length bytes ≤ most_input_bytes
    → IsImage bytes tables is → length (rows_of tables is) ≤ most_input_bytes
few_rows bytes tables is short image =
    let few = few_parts 10 bytes in
    let count = ap length image.lines ∙ length-append (image_lines tables is) ([] ∷ []) in
    let rows = length-map (rows_of tables is) row_text in
    omega (arith, short, few, count, rows)

-- an image has no more rows than its text has bytes
pub few_of_image : (tables : ImageTables) (is : List Instr) → IsSomeImage tables is
    → length (rows_of tables is) ≤ most_input_bytes
few_of_image tables is listed = ∥∥₁_elim listed le_prop (λ some. few_rows some.0 tables is some.1 some.2)
