-- Positions that are found or lost.
use Rattle.std.proofs.Common.{◌≡◌, ◌<◌, ℕ, nat_lt, Bool, true, false, length, inl, inr, refl, ap, ◌∙◌}
use Rattle.std.proofs.Common.{arith, true≢false}
use Rattle.std.specs.Prelude.{◌&&◌}
use Rattle.std.proofs.lemmas.Bool.{and_parts}
use Rattle.std.proofs.lemmas.Bool.Decides.{nat_tests}
use Rattle.cat_pos.specs.declared.limits.TheConstants.{MOST_FILES, COLUMNS_BOUND}
use Rattle.cat_pos.specs.Limits.{most_files, most_input_bytes}
use Rattle.cat_pos.specs.Position.{pos_of, pos_column}
use Rattle.cat_pos.proofs.Packing.{file_kept, column_kept}
use Rattle.cat_image.specs.declared.tables.ImagePos.{ImagePos}
use Rattle.cat_image.specs.declared.tables.ImageTables.{ImageTables}
use Rattle.cat_image.specs.Listed.{pos_words}
use Rattle.cat_verify_tables.specs.WrongParts.{IsLost}
use Rattle.cat_verify_tables.specs.inside.FoundPlaces.{is_found}

abbrev Parts : ℕ → ImagePos → Type 0
Parts files p =
    (nat_lt p.file files ≡ true) × (nat_lt p.file most_files ≡ true) × (nat_lt p.column most_input_bytes ≡ true)

parts : (files : ℕ) (p : ImagePos) → is_found files p ≡ true → Parts files p
parts files p found =
    let two = and_parts (nat_lt p.file files && nat_lt p.file most_files) (nat_lt p.column most_input_bytes) found in
    let one = and_parts (nat_lt p.file files) (nat_lt p.file most_files) two.0 in (
      one.0,
      one.1,
      two.1,
    )

pub file_below : (files : ℕ) (p : ImagePos) → is_found files p ≡ true → p.file < MOST_FILES
file_below files p found = let below = (parts files p found).1 in grind (arith, nat_tests, below)

pub column_below : (files : ℕ) (p : ImagePos) → is_found files p ≡ true → p.column < COLUMNS_BOUND
column_below files p found = let below = (parts files p found).2 in grind (arith, nat_tests, below)

-- its words are told back
pub place_told : (files : ℕ) (p : ImagePos) → is_found files p ≡ true
    → pos_words (pos_of p.file p.line p.column) ≡ p
place_told files p found =
    let below = file_below files p found in
    ap (λ (f : ℕ). record p { file = f; column = pos_column (pos_of p.file p.line p.column) })
    (file_kept p.file p.line p.column below)
    ∙ ap (λ (c : ℕ). record p { column = c }) (column_kept p.file p.line p.column below)

pub not_lost : (tables : ImageTables) (p : ImagePos) → is_found (length tables.files) p ≡ true → IsLost tables p → ⊥
not_lost tables p found (inl far) =
    let one = (parts (length tables.files) p found).0 in grind (arith, nat_tests, one, far)
not_lost tables p found (inr (inl far)) =
    let two = (parts (length tables.files) p found).1 in grind (arith, nat_tests, two, far)
not_lost tables p found (inr (inr far)) =
    let three = (parts (length tables.files) p found).2 in grind (arith, nat_tests, three, far)

pub lost : (tables : ImageTables) (p : ImagePos) → is_found (length tables.files) p ≡ false → IsLost tables p
lost tables p missed = by (nat_lt p.file (length tables.files)) (nat_lt p.file most_files)
    (nat_lt p.column most_input_bytes) refl refl refl missed
  where
    by : (a b c : Bool) → nat_lt p.file (length tables.files) ≡ a → nat_lt p.file most_files ≡ b
        → nat_lt p.column most_input_bytes ≡ c → (a && b && c) ≡ false → IsLost tables p
    by false b c one two three not = inl (grind (arith, nat_tests, one))
    by true false c one two three not = inr (inl (grind (arith, nat_tests, two)))
    by true true false one two three not = inr (inr (grind (arith, nat_tests, three)))
    by true true true one two three not = absurd (true≢false not)
