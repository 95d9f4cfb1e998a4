-- The texts of fractions and amounts are read as what they were written of.
use Rattle.std.proofs.Common.{◌≡◌, ◌≤◌, ℕ, zero, suc, ◌+◌, ◌-◌, ◌*◌, ◌/◌, ◌%◌, ◌^◌, ◌<◌, ℤ, pos, negsuc}
use Rattle.std.proofs.Common.{unsigned_abs, Bool, true, false, IsTrue, Option, Some, None, Ok}
use Rattle.std.proofs.Common.{List, []}
use Rattle.std.proofs.Common.{◌∷◌, ◌++◌, length, replicate, refl, sym, ap, ◌∙◌, subst, arith, rules, append_assoc}
use Rattle.std.proofs.Common.{append-nil}
use Rattle.std.specs.Fmt.{decimal, signed_decimal}
use Rattle.std.specs.Str.{all_ascii_digits}
use Rattle.std.proofs.lemmas.Bool.Decides.{nat_tests}
use Rattle.std.proofs.lemmas.Str.Parse.{IsNumeralModel, numerals_by_fold, tells_all_ascii_digits}
use Rattle.std.proofs.lemmas.Fmt.{digits_decimal, digits_value-decimal, length-decimal-le, decimal_nonempty}
use Rattle.std.proofs.Math.Nat.{pow-suc, mod-lt, mul-lt-mul_of_pos_right}
use Rattle.std.proofs.Math.Nat.{lt_of_lt_of_le, lt_of_le_of_lt, le_trans, pow-le-pow_right, div-lt_iff_lt-mul, mul_comm}
use Rattle.std.proofs.Math.Nat.{div-le_self, one-le-pow}
use Rattle.cat_num.specs.Whole.{fits}
use Rattle.cat_num.specs.Frac.{Fraction, IsReduced, is_reduced, is_negative, signed, ratio}
use Rattle.cat_num.specs.Text.{decimal_places, places_from, filled, sign, point_and_digits, with_places, text_with}
use Rattle.cat_num.specs.Text.{decimal_bytes, money_bytes}
use Rattle.cat_num.specs.Reading.{split_at, number_after}
use Rattle.cat_num.proofs.Exported.{exact_quotient, length-filled, number_after-append, places_from-start}
use Rattle.cat_num.proofs.Exported.{ratio_is, signed_decimal_is, signed_parts, units_are, units_equal}
use Rattle.cat_json.specs.Numerals.{are_digits, are_few, has_minus, without_minus, Numeral, quotient, pointed, plain}
use Rattle.cat_json.specs.Numerals.{numeral_of, numeral_with, pointed_or_plain, has_decimal_form}
use Rattle.cat_json.specs.Numerals.{has_few_digits, cents_of, fraction_of, numeral_fraction}
use Rattle.cat_json.specs.Numerals.{text_fraction, text_cents}

-- texts of digits
abbrev AreDigits : List ℕ → Type 0
AreDigits xs = all_ascii_digits xs ≡ true

numerals : IsNumeralModel AreDigits (number_after 0)
numerals = numerals_by_fold _ tells_all_ascii_digits number_after (search rules)

digits-append : (xs ys : List ℕ) → AreDigits xs → AreDigits ys → AreDigits (xs ++ ys)
digits-append [] ys p q = q
digits-append (x ∷ xs) ys p q = let rest = digits-append xs ys (grind arith) q in grind arith

digits-zeros : (k : ℕ) → AreDigits (replicate k 48)
digits-zeros zero = refl
digits-zeros (suc k) = digits-zeros k

digits-filled : (p v : ℕ) → v < 2 ^ 64 → AreDigits (filled p v)
digits-filled p v h = digits-append (replicate (p - length (decimal v)) 48) (decimal v)
    (digits-zeros (p - length (decimal v))) (digits_decimal numerals v h)

-- the number whose digits are those of m and then some is m at their weight, and theirs
number_after-weighed : (m : ℕ) (ds : List ℕ) → number_after m ds ≡ m * 10 ^ length ds + number_after 0 ds
number_after-weighed m [] = omega arith
number_after-weighed m (d ∷ ds) =
    number_after-weighed (10 * m + (d - 48)) ds ∙ turn m (d - 48) (10 ^ length ds) (number_after 0 ds)
    ∙ sym (ap (λ n. m * 10 ^ length (d ∷ ds) + n) (number_after-weighed (10 * 0 + (d - 48)) ds)
    ∙ ap (λ w. m * w + ((10 * 0 + (d - 48)) * 10 ^ length ds + number_after 0 ds)) (pow-suc 10 (length ds)))
  where
    turn : (m d w n : ℕ) → (10 * m + d) * w + n ≡ m * (w * 10) + ((10 * 0 + d) * w + n)
    turn m d w n = omega arith

number_after-zeros : (k : ℕ) (ds : List ℕ) → number_after 0 (replicate k 48 ++ ds) ≡ number_after 0 ds
number_after-zeros zero ds = refl
number_after-zeros (suc k) ds = number_after-zeros k ds

-- w units and v parts of so many digits
number_after-parts : (w p v : ℕ) → w < 2 ^ 64 → 0 < p → v < 10 ^ p → v < 2 ^ 64
    → number_after 0 (decimal w ++ filled p v) ≡ w * 10 ^ p + v
number_after-parts w p v h q k l =
    number_after-append 0 (decimal w) (filled p v)
    ∙ ap (λ m. number_after m (filled p v)) (digits_value-decimal numerals w h)
    ∙ number_after-weighed w (filled p v)
    ∙ ap (λ n. w * 10 ^ n + number_after 0 (filled p v)) (length-filled p v q k l)
    ∙ ap (λ n. w * 10 ^ p + n) (number_after-zeros (p - length (decimal v)) (decimal v)
    ∙ digits_value-decimal numerals v l)

-- no mark stands among digits
split_at-digits : (c : ℕ) (xs ys : List ℕ) → c < 48 → AreDigits xs → split_at c ys ≡ None → split_at c (xs ++ ys) ≡ None
split_at-digits c [] ys low p e = e
split_at-digits c (x ∷ xs) ys low p e =
    let rest = split_at-digits c xs ys low (grind arith) e in grind (arith, nat_tests)

split_at-none : (c : ℕ) (xs : List ℕ) → c < 48 → AreDigits xs → split_at c xs ≡ None
split_at-none c xs low p = ap (split_at c) (sym (append-nil xs)) ∙ split_at-digits c xs [] low p refl

split_at-mark : (c : ℕ) (xs ys : List ℕ) → c < 48 → AreDigits xs → split_at c (xs ++ c ∷ ys) ≡ Some (xs, ys)
split_at-mark c [] ys low p = grind (arith, nat_tests)
split_at-mark c (x ∷ xs) ys low p =
    let rest = split_at-mark c xs ys low (grind arith) in grind (arith, nat_tests)

-- what stands behind the sign
has_minus-digits : (xs ys : List ℕ) → 0 < length xs → AreDigits xs
    → (has_minus (xs ++ ys) ≡ false) × (without_minus (xs ++ ys) ≡ xs ++ ys)
has_minus-digits [] ys some p = absurd (omega arith)
has_minus-digits (x ∷ xs) ys some p = (grind (arith, nat_tests), grind (arith, nat_tests))

signed_text : (n : ℤ) (xs ys : List ℕ) → 0 < length xs → AreDigits xs
    → (has_minus (sign n ++ (xs ++ ys)) ≡ is_negative n) × (without_minus (sign n ++ (xs ++ ys)) ≡ xs ++ ys)
signed_text (pos n) xs ys some p = has_minus-digits xs ys some p
signed_text (negsuc n) xs ys some p = (refl, refl)

-- the numeral of a written number
abbrev written : ℕ → ℕ → ℕ → Numeral
written zero w v = plain (decimal w)
written (suc p) w v = pointed (decimal w) (filled (suc p) v)

numeral_of-point : (p w v : ℕ) → w < 2 ^ 64 → v < 2 ^ 64
    → numeral_of (decimal w ++ point_and_digits p v) ≡ written p w v
numeral_of-point zero w v h k =
    ap numeral_of (append-nil (decimal w))
    ∙ ap (numeral_with (decimal w)) (split_at-none 47 (decimal w) (omega arith) (digits_decimal numerals w h))
    ∙ ap (pointed_or_plain (decimal w)) (split_at-none 46 (decimal w) (omega arith) (digits_decimal numerals w h))
numeral_of-point (suc p) w v h k =
    let text : List ℕ = decimal w ++ 46 ∷ filled (suc p) v in
    let places : split_at 47 (filled (suc p) v) ≡ None =
    split_at-none 47 (filled (suc p) v) (omega arith) (digits-filled (suc p) v k) in
    ap (numeral_with text) (split_at-digits 47 (decimal w) (46 ∷ filled (suc p) v) (omega arith)
    (digits_decimal numerals w h) (rw places refl))
    ∙ ap (pointed_or_plain text) (split_at-mark 46 (decimal w) (filled (suc p) v) (omega arith)
    (digits_decimal numerals w h))

numeral_of-quotient : (n d : ℕ) → n < 2 ^ 64 → numeral_of (decimal n ++ 47 ∷ decimal d) ≡ quotient (decimal n)
    (decimal d)
numeral_of-quotient n d h =
    ap (numeral_with (decimal n ++ 47 ∷ decimal d))
    (split_at-mark 47 (decimal n) (decimal d) (omega arith) (digits_decimal numerals n h))

-- its parts have the form of parts
are_digits-decimal : (n : ℕ) → n < 2 ^ 64 → are_digits (decimal n) ≡ true
are_digits-decimal n h = let p = digits_decimal numerals n h in let q = decimal_nonempty n h in grind (arith, nat_tests)

are_digits-filled : (p v : ℕ) → 0 < p → v < 10 ^ p → v < 2 ^ 64 → are_digits (filled p v) ≡ true
are_digits-filled p v q h k =
    let d = digits-filled p v k in let l = length-filled p v q h k in grind (arith, nat_tests)

are_few-decimal : (n : ℕ) → n < 10 ^ 19 → are_few (decimal n) ≡ true
are_few-decimal n h = let l = length-decimal-le 19 n (omega arith) h (omega arith) in grind (arith, nat_tests)

has_form : (p w v : ℕ) → p ≤ 9 → w < 10 ^ 19 → v < 10 ^ p → v < 2 ^ 64
    → (has_decimal_form (written p w v) ≡ true) × (has_few_digits (written p w v) ≡ true)
has_form zero w v b h k l = (are_digits-decimal w (omega arith), are_few-decimal w h)
has_form (suc p) w v b h k l =
    let whole = are_digits-decimal w (omega arith) in
    let places = are_digits-filled (suc p) v (omega arith) k l in
    let few = length-filled (suc p) v (omega arith) k l in
    (grind (arith, nat_tests), are_few-decimal w h)

value_of : (s : Bool) (p w v : ℕ) → w < 2 ^ 64 → v < 10 ^ p → v < 2 ^ 64
    → fraction_of s (written p w v) ≡ ratio (signed s (w * 10 ^ p + v)) (10 ^ p)
value_of s zero w v h k l =
    let units : number_after 0 (decimal w) ≡ w * 10 ^ 0 + v = digits_value-decimal numerals w h ∙ omega arith in
    ap (λ n. ratio (signed s n) 1) units
value_of s (suc p) w v h k l =
    ap (λ n. ratio (signed s n) (10 ^ length (filled (suc p) v))) (number_after-parts w (suc p) v h (omega arith) k l)
    ∙ ap (λ n. ratio (signed s (w * 10 ^ suc p + v)) (10 ^ n)) (length-filled (suc p) v (omega arith) k l)

-- the places of a fraction are at most 9, and its denominator divides that power of ten
place_found : (k p d q : ℕ) → places_from k p d ≡ Some q → (q < p + k) × (10 ^ q % d ≡ 0)
place_found zero p d q e = absurd (cc)
place_found (suc k) p d q e = by (10 ^ p % d) refl e (place_found k (p + 1) d q)
  where
    by : (m : ℕ) → 10 ^ p % d ≡ m → places_from (suc k) p d ≡ Some q
        → (places_from k (p + 1) d ≡ Some q → (q < p + 1 + k) × (10 ^ q % d ≡ 0))
        → (q < p + suc k) × (10 ^ q % d ≡ 0)
    by zero z e later =
        let same : p ≡ q = grind (arith, nat_tests) in
        (omega arith, subst (λ x. 10 ^ x % d ≡ 0) same z)
    by (suc m) z e later = let rest = later (grind (arith, nat_tests)) in (omega (arith, rest.0), rest.1)

-- the fraction of a numeral of that form
read_numeral : (s : Bool) (n : Numeral) (f : Fraction) → has_decimal_form n ≡ true → has_few_digits n ≡ true
    → fraction_of s n ≡ Ok f → numeral_fraction s n ≡ Ok f
read_numeral s n f form few e = rw (form, few, e) refl

-- a text with places is read
text_fraction-places : (f : Fraction) (p : ℕ) → IsReduced f.num f.den → p ≤ 9 → 10 ^ p % f.den ≡ 0
    → text_fraction (with_places p f.num f.den) ≡ Ok f
unfolding text_fraction
text_fraction-places f p r b e =
    let size : ℕ = unsigned_abs f.num in
    let num = r.num_fits in
    let v : ℕ = size % f.den * 10 ^ p / f.den in
    let units : size / f.den < 10 ^ 19 = lt_of_le_of_lt (div-le_self size f.den) (omega arith) in
    let below : v < 10 ^ p = (div-lt_iff_lt-mul r.positive).1 (subst (λ x. size % f.den * 10 ^ p < x)
    (mul_comm f.den (10 ^ p)) (mul-lt-mul_of_pos_right (mod-lt size r.positive) (one-le-pow p 10 (omega arith)))) in
    let small : v < 2 ^ 64 =
    lt_of_lt_of_le below (le_trans (pow-le-pow_right {n = 10} (omega arith) b) (omega arith)) in
    let wide : size / f.den < 2 ^ 64 = omega arith in
    let shown = signed_text f.num (decimal (size / f.den)) (point_and_digits p v) (decimal_nonempty _ wide)
    (digits_decimal numerals _ wide) in
    let form = has_form p (size / f.den) v b units below small in
    rw (
      append_assoc (sign f.num) (decimal (size / f.den)) (point_and_digits p v),
      shown.0,
      shown.1,
      numeral_of-point p (size / f.den) v wide small,
    )
    (read_numeral (is_negative f.num) (written p (size / f.den) v) f form.0 form.1
    (value_of (is_negative f.num) p (size / f.den) v wide below small
    ∙ ap (λ n. ratio (signed (is_negative f.num) n) (10 ^ p)) (units_are size f.den p r.positive e)
    ∙ ratio_is f (signed (is_negative f.num) (size * (10 ^ p / f.den))) (10 ^ p) (one-le-pow p 10 (omega arith)) r
    (units_equal f.num f.den (10 ^ p) (exact_quotient (10 ^ p) f.den e))))

-- a text with a `/` is read
text_fraction-quotient : (f : Fraction) → IsReduced f.num f.den
    → text_fraction (signed_decimal f.num ++ 47 ∷ decimal f.den) ≡ Ok f
unfolding text_fraction
text_fraction-quotient f r =
    let size : ℕ = unsigned_abs f.num in
    let num = r.num_fits in
    let den = r.den_fits in
    let wide : size < 2 ^ 64 = omega arith in
    let deep : f.den < 2 ^ 64 = omega arith in
    let text : signed_decimal f.num ++ 47 ∷ decimal f.den ≡ sign f.num ++ (decimal size ++ 47 ∷ decimal f.den) =
    ap (λ t. t ++ 47 ∷ decimal f.den) (signed_decimal_is f.num)
    ∙ append_assoc (sign f.num) (decimal size) (47 ∷ decimal f.den) in
    let shown = signed_text f.num (decimal size) (47 ∷ decimal f.den) (decimal_nonempty size wide)
    (digits_decimal numerals size wide) in
    let above = are_digits-decimal size wide in
    let under = are_digits-decimal f.den deep in
    let few_above = are_few-decimal size (omega arith) in
    let few_under = are_few-decimal f.den (omega arith) in
    rw (text, shown.0, shown.1, numeral_of-quotient size f.den wide)
    (read_numeral (is_negative f.num) (quotient (decimal size) (decimal f.den)) f (rw (above, under) refl)
    (rw (few_above, few_under) refl)
    (ap (λ n. ratio (signed (is_negative f.num) n) (number_after 0 (decimal f.den)))
    (digits_value-decimal numerals size wide)
    ∙ ap (ratio (signed (is_negative f.num) size)) (digits_value-decimal numerals f.den deep)
    ∙ ap (λ n. ratio n f.den) (signed_parts f.num) ∙ ratio_is f f.num f.den r.positive r refl))

-- the text of a fraction is read as that fraction
pub text_fraction-decimal_bytes : (f : Fraction) → IsTrue (is_reduced f) → text_fraction (decimal_bytes f) ≡ Ok f
unfolding decimal_bytes
text_fraction-decimal_bytes f h = by (decimal_places f.den) refl
  where
    reduced : IsReduced f.num f.den
    reduced = record {
      positive = grind (arith, nat_tests);
      den_fits = grind (arith, nat_tests);
      num_fits = grind (arith, nat_tests);
      lowest_terms = grind (arith, nat_tests);
    }

    by : (o : Option ℕ) → decimal_places f.den ≡ o → text_fraction (text_with o f) ≡ Ok f
    by None e = text_fraction-quotient f reduced
    by (Some p) e =
        let place = place_found 10 0 f.den p (places_from-start f.den ∙ e) in
        text_fraction-places f p reduced (omega (arith, place.0)) place.1

-- cents are units and hundredths
cents_are : (n : ℕ) → (n / 100) * 10 ^ 2 + n % 100 * 10 ^ 2 / 100 ≡ n
cents_are n = units_are n 100 2 (omega arith) refl ∙ omega arith

-- the text of an amount is read as that amount
pub text_cents-money_bytes : (n : ℤ) → IsTrue (fits n) → text_cents (money_bytes n) ≡ Ok n
unfolding text_cents money_bytes
text_cents-money_bytes n h =
    let size : ℕ = unsigned_abs n in
    let num : size ≤ 2 ^ 63 - 1 = grind (arith, nat_tests) in
    let v : ℕ = size % 100 * 10 ^ 2 / 100 in
    let units : size / 100 < 10 ^ 19 = omega arith in
    let below : v < 10 ^ 2 = omega arith in
    let shown = signed_text n (decimal (size / 100)) (point_and_digits 2 v) (decimal_nonempty _ (omega arith))
    (digits_decimal numerals _ (omega arith)) in
    let whole = are_digits-decimal (size / 100) (omega arith) in
    let places = are_digits-filled 2 v (omega arith) below (omega arith) in
    let two = length-filled 2 v (omega arith) below (omega arith) in
    let few = are_few-decimal (size / 100) units in
    let value : cents_of (pointed (decimal (size / 100)) (filled 2 v)) ≡ size =
    ap (λ m. number_after 0 (decimal (size / 100) ++ filled 2 v) * 10 ^ (2 - m)) two
    ∙ ap (λ m. m * 10 ^ 0) (number_after-parts (size / 100) 2 v (omega arith) (omega arith) below (omega arith)
    ∙ cents_are size) ∙ omega arith in
    rw (
      append_assoc (sign n) (decimal (size / 100)) (point_and_digits 2 v),
      shown.0,
      shown.1,
      numeral_of-point 2 (size / 100) v (omega arith) (omega arith),
      whole,
      places,
      value,
      two,
      few,
      signed_parts n,
      h,
    ) refl
