-- Texts that are lines: of ASCII, of numbers, of types and of values.
use Rattle.std.proofs.Common.{◌≡◌, ◌<◌, ◌+◌, ◌%◌, ◌^◌, ℕ, ◌&&◌, ◌==◌, Bool, true, not, ltb, [], ◌∷◌}
use Rattle.std.proofs.Common.{◌++◌}
use Rattle.std.proofs.Common.{refl, arith, decimal}
use Rattle.std.specs.Prelude.{codes}
use Rattle.std.specs.List.{list_all}
use Rattle.std.specs.Str.{all_scalars, is_utf8, IsUtf8}
use Rattle.std.proofs.lemmas.Bool.{and_parts, and_from}
use Rattle.std.proofs.lemmas.Bool.Decides.{nat_tests}
use Rattle.std.proofs.lemmas.Str.{is_utf8-from_IsUtf8}
use Rattle.std.proofs.lemmas.Fmt.{decimal_by_steps}
use Rattle.cat_lex.proofs.Characters.{ascii_chars}
use Rattle.cat_image.specs.declared.tables.ImagePos.{ImagePos}
use Rattle.cat_image.specs.declared.tables.ImageKind.{ImageKind}
use Rattle.cat_image.specs.declared.tables.ImageKind.TheVariants as words
use Rattle.cat_image.specs.Words.{Text, IsSmall, IsSmallPos, pos_text, kind_text}
use Rattle.cat_image.specs.Listed.{is_line}
use Rattle.cat_image.specs.Rows.{behind_blank}
use Rattle.cat_emitted.proofs.WordFacts.{no_feed, line_append}

-- ---- ASCII

-- a byte of ASCII that is no line feed
abbrev pub is_plain : ℕ → Bool
is_plain b = ltb b 128 && not (b == 10)

plain_low : (text : Text) → list_all is_plain text ≡ true → list_all (λ c. ltb c 128) text ≡ true
plain_low [] h = refl
plain_low (b ∷ bs) h =
    let parts = and_parts (is_plain b) (list_all is_plain bs) h in
    and_from (ltb b 128) (list_all (λ c. ltb c 128) bs) (and_parts (ltb b 128) (not (b == 10)) parts.0).0
    (plain_low bs parts.1)

plain_no_feed : (text : Text) → list_all is_plain text ≡ true → list_all no_feed text ≡ true
plain_no_feed [] h = refl
plain_no_feed (b ∷ bs) h =
    let parts = and_parts (is_plain b) (list_all is_plain bs) h in
    and_from (no_feed b) (list_all no_feed bs) (and_parts (ltb b 128) (not (b == 10)) parts.0).1
    (plain_no_feed bs parts.1)

low_scalars : (text : Text) → list_all (λ c. ltb c 128) text ≡ true → all_scalars text ≡ true
low_scalars [] h = refl
low_scalars (b ∷ bs) h =
    let parts = and_parts (ltb b 128) (list_all (λ c. ltb c 128) bs) h in
    let low = parts.0 in
    and_from _ (all_scalars bs) (grind (arith, nat_tests, low)) (low_scalars bs parts.1)

pub low_utf8 : (text : Text) → list_all (λ c. ltb c 128) text ≡ true → IsUtf8 text
low_utf8 text low = (text, (low_scalars text low, ascii_chars text low))

pub plain_line : (text : Text) → list_all is_plain text ≡ true → is_line text ≡ true
plain_line text h =
    let low = plain_low text h in
    and_from (is_utf8 text) (list_all no_feed text)
    (is_utf8-from_IsUtf8 text (low_utf8 text low)) (plain_no_feed text h)

-- ---- numbers and positions

digit_line : (d : ℕ) → d < 10 → is_line ((48 + d) ∷ []) ≡ true
digit_line d small =
    plain_line ((48 + d) ∷ [])
    (and_from (is_plain (48 + d)) true (let low = small in grind (arith, nat_tests, low)) refl)

pub decimal_line : (n : ℕ) → n < 2 ^ 64 → is_line (decimal n) ≡ true
decimal_line = decimal_by_steps (λ _ ds. is_line ds ≡ true) digit_line
    (λ n ds more front. line_append ds ((48 + n % 10) ∷ []) front (digit_line (n % 10) (omega arith)))

pub small_line : (n : ℕ) → IsSmall n → is_line (decimal n) ≡ true
small_line n small = decimal_line n (omega (arith, small))

pub blank_line : (text : Text) → is_line text ≡ true → is_line (behind_blank text) ≡ true
blank_line text h = line_append (codes " ") text (plain_line (codes " ") refl) h

pub colon_line : (text : Text) → is_line text ≡ true → is_line (codes ":" ++ text) ≡ true
colon_line text h = line_append (codes ":") text (plain_line (codes ":") refl) h

pub pos_line : (p : ImagePos) → IsSmallPos p → is_line (pos_text p) ≡ true
pos_line p small =
    line_append (decimal p.file) _ (small_line p.file small.0)
    (colon_line (decimal p.line ++ (codes ":" ++ decimal p.column))
    (line_append (decimal p.line) _ (small_line p.line small.1)
    (colon_line (decimal p.column) (small_line p.column small.2))))

pub kind_line : (k : ImageKind) → is_line (kind_text k) ≡ true
kind_line words.Input = plain_line (codes "input") refl
kind_line words.Output = plain_line (codes "output") refl
kind_line words.Internal = plain_line (codes "internal") refl
kind_line words.Context = plain_line (codes "context") refl
kind_line words.InputOutput = plain_line (codes "inputoutput") refl
kind_line words.ContextOutput = plain_line (codes "contextoutput") refl
kind_line words.Called = plain_line (codes "called") refl
