-- The texts of decimals, amounts and days are ASCII.
use Rattle.std.proofs.Common.{◌≡◌, ◌<◌, ◌+◌, ◌-◌, ◌/◌, ◌%◌, ◌^◌, ◌*◌, ◌==◌, ℕ, zero, suc, ℤ, pos, negsuc}
use Rattle.std.proofs.Common.{Bool, true, false, nat_lt, ltb, List, [], ◌∷◌, ◌++◌, length, Option}
use Rattle.std.proofs.Common.{Some}
use Rattle.std.proofs.Common.{None, Ok, bytes_eq, refl, ap, ◌∙◌}
use Rattle.std.proofs.Common.{arith, decimal, codes}
use Rattle.std.specs.Prelude.{replicate, unsigned_abs, if◌then◌else◌}
use Rattle.std.specs.Char.{is_ascii_digit}
use Rattle.std.specs.Fmt.{digits, digits_onto, digit_glyph, signed_decimal}
use Rattle.std.specs.List.{list_all}
use Rattle.std.specs.Str.{IsUtf8}
use Rattle.std.proofs.lemmas.Bool.{and_parts, and_from}
use Rattle.std.proofs.lemmas.Bool.Decides.{nat_tests}
use Rattle.std.proofs.lemmas.List.Folds.{list_all-append}
use Rattle.std.proofs.lemmas.Slice.Eq.{bytes_eq-Decides}
use Rattle.cat_num.specs.Frac.{Fraction, is_negative}
use Rattle.cat_num.specs.Text.{decimal_places, filled, sign, point_and_digits, with_places, text_with, decimal_bytes}
use Rattle.cat_num.specs.Text.{money_bytes}
use Rattle.cat_date.specs.Calendar.{IsDay}
use Rattle.cat_date.specs.Text.{form_of, day_text, day_of_text}
use Rattle.cat_date.proofs.RoundTrip.{day_of_text-day_text}
use Rattle.cat_emitted.proofs.LineFacts.{low_utf8}

-- ---- ASCII

abbrev low : ℕ → Bool
low c = ltb c 128

abbrev IsLow : List ℕ → Type 0
IsLow text = list_all low text ≡ true

low_both : (one other : List ℕ) → IsLow one → IsLow other → IsLow (one ++ other)
low_both one other a b = list_all-append low one other ∙ and_from (list_all low one) (list_all low other) a b

low_first : (b : ℕ) (text : List ℕ) → low b ≡ true → IsLow text → IsLow (b ∷ text)
low_first b text one more = and_from (low b) (list_all low text) one more

glyph_low : (d : ℕ) → d < 10 → low (digit_glyph false d) ≡ true
glyph_low d small = by (nat_lt d 10) refl
  where
    by : (b : Bool) → nat_lt d 10 ≡ b → low (if b then 48 + d else 87 + d) ≡ true
    by true is = grind (arith, nat_tests, small)
    by false is = grind (arith, nat_tests, small)

digits_low : (k n : ℕ) (acc : List ℕ) → IsLow acc → IsLow (digits_onto k 10 false n acc)
digits_low zero n acc own = own
digits_low (suc k) n acc own =
    let more = low_first (digit_glyph false (n % 10)) acc (glyph_low (n % 10) (omega arith)) own in
    by (n / 10 == 0) more (digits_low k (n / 10) (digit_glyph false (n % 10) ∷ acc) more)
  where
    by : (b : Bool) → IsLow (digit_glyph false (n % 10) ∷ acc)
        → IsLow (digits_onto k 10 false (n / 10) (digit_glyph false (n % 10) ∷ acc))
        → IsLow (if b then digit_glyph false (n % 10) ∷ acc
        else digits_onto k 10 false (n / 10) (digit_glyph false (n % 10) ∷ acc))
    by true one more = one
    by false one more = more

decimal_low : (n : ℕ) → IsLow (decimal n)
unfolding digits
decimal_low n = digits_low 64 n [] refl

signed_low : (z : ℤ) → IsLow (signed_decimal z)
signed_low (pos n) = decimal_low n
signed_low (negsuc n) = low_first 45 (decimal (suc n)) refl (decimal_low (suc n))

zeros_low : (k : ℕ) → IsLow (replicate k 48)
zeros_low zero = refl
zeros_low (suc k) = low_first 48 (replicate k 48) refl (zeros_low k)

point_low : (p v : ℕ) → IsLow (point_and_digits p v)
point_low zero v = refl
point_low (suc p) v =
    low_first 46 (filled (suc p) v) refl
    (low_both (replicate (suc p - length (decimal v)) 48) (decimal v) (zeros_low (suc p - length (decimal v)))
    (decimal_low v))

sign_low : (n : ℤ) → IsLow (sign n)
sign_low n = by (is_negative n)
  where
    by : (b : Bool) → IsLow (if b then 45 ∷ [] else [])
    by true = refl
    by false = refl

places_low : (p : ℕ) (n : ℤ) (d : ℕ) → IsLow (with_places p n d)
places_low p n d =
    low_both (sign n ++ decimal (unsigned_abs n / d)) (point_and_digits p (unsigned_abs n % d * 10 ^ p / d))
    (low_both (sign n) (decimal (unsigned_abs n / d)) (sign_low n) (decimal_low (unsigned_abs n / d)))
    (point_low p (unsigned_abs n % d * 10 ^ p / d))

fraction_low : (f : Fraction) → IsLow (decimal_bytes f)
unfolding decimal_bytes
fraction_low f = by (decimal_places f.den)
  where
    by : (o : Option ℕ) → IsLow (text_with o f)
    by (Some p) = places_low p f.num f.den
    by None = low_both (signed_decimal f.num) (47 ∷ decimal f.den) (signed_low f.num)
        (low_first 47 (decimal f.den) refl (decimal_low f.den))

money_low : (n : ℤ) → IsLow (money_bytes n)
unfolding money_bytes
money_low n = places_low 2 n 100

pub fraction_utf8 : (f : Fraction) → IsUtf8 (decimal_bytes f)
fraction_utf8 f = low_utf8 (decimal_bytes f) (fraction_low f)

pub money_utf8 : (n : ℤ) → IsUtf8 (money_bytes n)
money_utf8 n = low_utf8 (money_bytes n) (money_low n)

-- a text of a day's form
zeroed_low : (c : ℕ) → low (if is_ascii_digit c then 48 else c) ≡ true → low c ≡ true
zeroed_low c h = grind (arith, nat_tests)

form_low : (text : List ℕ) → IsLow (form_of text) → IsLow text
form_low [] h = refl
form_low (c ∷ cs) h =
    let parts = and_parts (low (if is_ascii_digit c then 48 else c)) (list_all low (form_of cs)) h in
    low_first c cs (zeroed_low c parts.0) (form_low cs parts.1)

formed : (text : List ℕ) (n : ℤ) → day_of_text text ≡ Ok n → form_of text ≡ codes "0000-00-00"
unfolding day_of_text
formed text n h = by (bytes_eq (form_of text) (codes "0000-00-00")) refl
  where
    by : (b : Bool) → bytes_eq (form_of text) (codes "0000-00-00") ≡ b → form_of text ≡ codes "0000-00-00"
    by true is = (bytes_eq-Decides (form_of text) (codes "0000-00-00")).0 is
    by false is = let none = rw is at h in absurd (cc)

day_low : (n : ℤ) → IsDay n → IsLow (day_text n)
day_low n day = form_low (day_text n) (ap (list_all low) (formed (day_text n) n (day_of_text-day_text n day)))

pub day_utf8 : (n : ℤ) → IsDay n → IsUtf8 (day_text n)
day_utf8 n day = low_utf8 (day_text n) (day_low n day)
