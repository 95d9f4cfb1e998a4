-- Results of the operations on numbers, dates and durations are in their ranges.
use Rattle.std.proofs.Common.{◌≡◌, ℕ, zero, suc, ◌+◌, ◌*◌, ◌/◌, ◌%◌, ◌<◌, ◌≤◌, nat_le, ℤ, pos, negsuc, neg_ℤ, ◌+ℤ◌}
use Rattle.std.proofs.Common.{◌-ℤ◌, ◌≤ℤ◌, unsigned_abs, Bool, true, false, ◌&&◌, IsTrue, Result, Ok, Err, if◌then◌else◌}
use Rattle.std.proofs.Common.{refl, sym, ap, ◌∙◌, subst, arith, ⊎_elim, nat_lt, ◌==◌}
use Rattle.std.proofs.lemmas.Bool.{cases_lt}
use Rattle.std.proofs.lemmas.Bool.Decides.{nat_tests}
use Rattle.std.proofs.Math.Nat.{div-le_self, eq-zero-or-pos}
use Rattle.jiff_core.proofs.SignedLemmas.{signed_arith, one_part}
use Rattle.jiff_core.proofs.CalendarLemmas.{days_in_month_bounds}
use Rattle.cat_num.specs.declared.fault.NumFault.TheVariants as num
use Rattle.cat_num.specs.Whole.{largest, fits, whole_of}
use Rattle.cat_num.specs.Frac.{Fraction, IsReduced, gcd, is_negative, signed, lowest, ratio, frac_of, frac_negation}
use Rattle.cat_num.specs.Rounding.{rounded, truncated, rounded_ratio, whole_units}
use Rattle.cat_num.specs.Numerals.{Numeral, is_numeral, numeral_value}
use Rattle.cat_num.proofs.Exported.{value_reduced, gcd-mod, gcd-zero, unsigned_abs-signed, signed-product, ratio-zero}
use Rattle.cat_num.proofs.Exported.{ratio-large_num, ratio-large_den, ratio-fits, lowest_parts, IsReduced-lowest}
use Rattle.cat_num.proofs.Exported.{Fits-rounded}
use Rattle.cat_date.specs.declared.fault.DateFault.{DateFault}
use Rattle.cat_date.specs.declared.fault.DateFault.TheVariants as date
use Rattle.cat_date.specs.Calendar.{is_day, in_range, civil_of}
use Rattle.cat_date.specs.Add.{plus_days}
use Rattle.cat_date.specs.Span.{SpanOf, is_part, is_span, span_in_range, span_negated, span_of_days}
use Rattle.cat_date.proofs.Exported.{bounds-IsDay, civil_of-IsDateOf}
use Rattle.cat_value.specs.Flat.{is_decimal}
use Rattle.cat_scope.specs.Operators.{over_one}

ok_or : {A E : Type 0} → A → Result A E → A
ok_or d (Ok a) = a
ok_or d (Err e) = d

same_ok : {A E : Type 0} (a b : A) (r : Result A E) → r ≡ Ok a → r ≡ Ok b → a ≡ b
unfolding ok_or
same_ok a b r is also = sym (ap (ok_or a) is) ∙ ap (ok_or a) also

fits_of : (n : ℤ) → unsigned_abs n ≤ largest → IsTrue (fits n)
fits_of n h = grind (arith, nat_tests)

size_of : (n : ℤ) → IsTrue (fits n) → unsigned_abs n ≤ largest
size_of n h = grind (arith, nat_tests)

abs-neg : (n : ℤ) → unsigned_abs (neg_ℤ n) ≡ unsigned_abs n
abs-neg (pos zero) = refl
abs-neg (pos (suc n)) = refl
abs-neg (negsuc n) = refl

pub whole_fits : (n a : ℤ) → whole_of n ≡ Ok a → IsTrue (fits a)
whole_fits n a h = by (fits n) refl h
  where
    by : (b : Bool) → fits n ≡ b → (if b then Ok n else Err num.Overflow) ≡ Ok a → IsTrue (fits a)
    by true e g = subst (λ (m : ℤ). IsTrue (fits m)) (same_ok n a (Ok n) refl g) e
    by false e g = absurd (cc)

pub ratio_fits : (n d a : ℤ) → rounded_ratio n d ≡ Ok a → IsTrue (fits a)
ratio_fits n (pos zero) a h = absurd (cc)
ratio_fits n (pos (suc d)) a h = whole_fits (rounded n (suc d)) a h
ratio_fits n (negsuc d) a h = whole_fits (rounded (neg_ℤ n) (suc d)) a h

pub negation_fits : (n : ℤ) → IsTrue (fits n) → IsTrue (fits (neg_ℤ n))
negation_fits n h = ap (λ u. nat_le u largest) (abs-neg n) ∙ h

decimal_of : (n : ℤ) (d : ℕ) → IsReduced n d → IsTrue (is_decimal (record { num = n; den = d }))
decimal_of n d h =
    let some = h.positive in
    let den = h.den_fits in
    let num = h.num_fits in
    let terms = h.lowest_terms in
    grind (arith, nat_tests)

pub numeral_decimal : (n : Numeral) → IsTrue (is_numeral n) → IsTrue (is_decimal (numeral_value n))
numeral_decimal n h = decimal_of (numeral_value n).num (numeral_value n).den (value_reduced n h)

den_of : (f : Fraction) → IsTrue (is_decimal f) → 0 < f.den
den_of f h = grind (arith, nat_tests)

num_of : (f : Fraction) → IsTrue (is_decimal f) → unsigned_abs f.num ≤ largest
num_of f h = grind (arith, nat_tests)

lowest_decimal : (n : ℤ) (d : ℕ) → 0 < d → unsigned_abs n / gcd (unsigned_abs n) d ≤ largest
    → d / gcd (unsigned_abs n) d ≤ largest → IsTrue (is_decimal (lowest n d))
lowest_decimal n d h p q =
    subst (λ (f : Fraction). IsTrue (is_decimal f)) (sym (lowest_parts n d))
    (decimal_of (signed (is_negative n) (unsigned_abs n / gcd (unsigned_abs n) d)) (d / gcd (unsigned_abs n) d)
    (IsReduced-lowest n d h p q))

pub ratio_decimal : (n : ℤ) (d : ℕ) (f : Fraction) → ratio n d ≡ Ok f → IsTrue (is_decimal f)
ratio_decimal n d f h =
    ⊎_elim
    (λ none. absurd (cc (ratio-zero n d none)))
    (λ some. ⊎_elim
    (λ big. absurd (cc (ratio-large_num n d some big)))
    (λ num. ⊎_elim
    (λ big. absurd (cc (ratio-large_den n d some big)))
    (λ den. subst (λ (g : Fraction). IsTrue (is_decimal g))
    (same_ok (lowest n d) f (ratio n d) (ratio-fits n d some num den) h) (lowest_decimal n d some num den))
    (cases_lt largest (d / gcd (unsigned_abs n) d)))
    (cases_lt largest (unsigned_abs n / gcd (unsigned_abs n) d)))
    (eq-zero-or-pos d)

pub frac_decimal : (n d : ℤ) (f : Fraction) → frac_of n d ≡ Ok f → IsTrue (is_decimal f)
frac_decimal n (pos d) f h = ratio_decimal n d f h
frac_decimal n (negsuc d) f h = ratio_decimal (neg_ℤ n) (suc d) f h

pub negation_decimal : (f : Fraction) → IsTrue (is_decimal f) → IsTrue (is_decimal (frac_negation f))
negation_decimal f h =
    ap (λ u. nat_lt 0 f.den && nat_le f.den largest && nat_le u largest && gcd u f.den == 1) (abs-neg f.num) ∙ h

pub whole_decimal : (n : ℤ) → IsTrue (fits n) → IsTrue (is_decimal (over_one n))
whole_decimal n h =
    let size = size_of n h in
    decimal_of n 1 (record {
      positive = omega arith;
      den_fits = omega arith;
      num_fits = size;
      lowest_terms = sym (gcd-mod (unsigned_abs n) 1) ∙ gcd-zero 1 (unsigned_abs n % 1) (omega arith);
    })

pub cents_decimal : (n : ℤ) → IsTrue (fits n) → IsTrue (is_decimal (lowest n 100))
cents_decimal n h =
    let size = size_of n h in
    lowest_decimal n 100 (omega arith) (omega (arith, div-le_self (unsigned_abs n) (gcd (unsigned_abs n) 100)))
    (omega (arith, div-le_self 100 (gcd (unsigned_abs n) 100)))

pub rounded_fits : (f : Fraction) → IsTrue (is_decimal f) → IsTrue (fits (rounded f.num f.den))
rounded_fits f h = fits_of (rounded f.num f.den) (Fits-rounded f.num f.den (den_of f h) (num_of f h))

pub truncated_fits : (f : Fraction) → IsTrue (is_decimal f) → IsTrue (fits (truncated f.num f.den))
truncated_fits f h =
    let size = num_of f h in
    fits_of (truncated f.num f.den)
    (omega (
      arith,
      unsigned_abs-signed (is_negative f.num) (unsigned_abs f.num / f.den),
      div-le_self (unsigned_abs f.num) f.den,
    ))

pub units_fit : (n : ℤ) → IsTrue (fits n) → IsTrue (fits (whole_units n))
units_fit n h =
    let size = size_of n h in
    let q = (2 * unsigned_abs n + 100) / (2 * 100) in
    let is : unsigned_abs (whole_units n) ≡ q * 100 =
    ap unsigned_abs (signed-product (is_negative n) q 100) ∙ unsigned_abs-signed (is_negative n) (q * 100) in
    fits_of (whole_units n) (omega arith)

-- a year, a month and a day of the month
year_size : (y : ℤ) → pos 1 ≤ℤ y → y ≤ℤ pos 9999 → unsigned_abs y ≤ largest
year_size y low high = omega (arith, signed_arith, one_part y)

pub year_fits : (n : ℤ) → IsTrue (is_day n) → IsTrue (fits (civil_of n).year)
year_fits n h =
    let is = civil_of-IsDateOf n h in fits_of (civil_of n).year (year_size (civil_of n).year is.first is.civil.0.1)

pub month_fits : (n : ℤ) → IsTrue (is_day n) → IsTrue (fits (pos (civil_of n).month))
month_fits n h = let is = civil_of-IsDateOf n h in fits_of (pos (civil_of n).month) (omega (arith, is.civil.1.1))

pub day_fits : (n : ℤ) → IsTrue (is_day n) → IsTrue (fits (pos (civil_of n).day))
day_fits n h =
    let is = civil_of-IsDateOf n h in
    fits_of (pos (civil_of n).day)
    (omega (arith, is.civil.2.1, days_in_month_bounds (civil_of n).year (civil_of n).month))

pub negation_span : (s : SpanOf) → IsTrue (is_span s) → IsTrue (is_span (span_negated s))
negation_span s h =
    ap (λ u. nat_le u largest && is_part (neg_ℤ s.days)) (abs-neg s.months)
    ∙ ap (λ u. is_part s.months && nat_le u largest) (abs-neg s.days) ∙ h

difference_size : (a b : ℤ) → negsuc 719_161 ≤ℤ a → a ≤ℤ pos 2_932_896 → negsuc 719_161 ≤ℤ b → b ≤ℤ pos 2_932_896
    → unsigned_abs (a -ℤ b) ≤ largest
difference_size a b h i j k = omega (arith, signed_arith, one_part (a -ℤ b))

pub days_span : (a b : ℤ) → IsTrue (is_day a) → IsTrue (is_day b) → IsTrue (is_span (span_of_days (a -ℤ b)))
days_span a b ha hb =
    let low = bounds-IsDay a ha in
    let high = bounds-IsDay b hb in
    fits_of (a -ℤ b) (difference_size a b low.0 low.1 high.0 high.1)

pub range_span : (s t : SpanOf) → span_in_range s ≡ Ok t → IsTrue (is_span t)
unfolding span_in_range
range_span s t h = by (is_span s) refl h
  where
    by : (b : Bool) → is_span s ≡ b → (if b then Ok s else Err date.Overflow) ≡ Ok t → IsTrue (is_span t)
    by true e g = subst (λ (x : SpanOf). IsTrue (is_span x)) (same_ok s t (Ok s) refl g) e
    by false e g = absurd (cc)

range_day : (n z : ℤ) → in_range n ≡ Ok z → IsTrue (is_day z)
range_day n z h = by (is_day n) refl h
  where
    by : (b : Bool) → is_day n ≡ b → (if b then Ok n else Err date.Overflow) ≡ Ok z → IsTrue (is_day z)
    by true e g = subst (λ (x : ℤ). IsTrue (is_day x)) (same_ok n z (Ok n) refl g) e
    by false e g = absurd (cc)

pub sum_day : (r : Result ℤ DateFault) (days z : ℤ) → plus_days r days ≡ Ok z → IsTrue (is_day z)
sum_day (Ok day) days z h = range_day (day +ℤ days) z h
sum_day (Err fault) days z h = absurd (cc)
