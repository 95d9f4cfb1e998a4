-- What is written of a day is read as that day.
use Rattle.std.proofs.Common.{◌≡◌, ℕ, ◌+◌, ◌*◌, ◌/◌, ◌%◌, ◌<◌, [], ◌∷◌, true, Ok, refl, ◌∙◌, arith, ℤ, pos}
use Rattle.std.proofs.Common.{unsigned_abs}
use Rattle.std.proofs.lemmas.Bool.Decides.{nat_tests}
use Rattle.std.specs.Char.{is_ascii_digit, digit_value}
use Rattle.jiff_core.proofs.SignedLemmas.{signed_arith, one_part}
use Rattle.jiff_core.proofs.CalendarLemmas.{days_in_month_bounds}
use Rattle.cat_date.specs.Calendar.{IsDay, civil_of, day_of_civil}
use Rattle.cat_date.specs.Text.{date_text, day_text, day_of_text}
use Rattle.cat_date.proofs.DateOfDay.{civil_of-IsDateOf, day_of_civil-civil_of}

digit_is : (a : ℕ) → a < 10 → is_ascii_digit (48 + a) ≡ true
digit_is a h = grind (arith, nat_tests)

digit_value_is : (a : ℕ) → a < 10 → digit_value (48 + a) ≡ a
digit_value_is a h = grind (arith, nat_tests)

day_of_text-digits : (a b c d e f g h : ℕ) → a < 10 → b < 10 → c < 10 → d < 10 → e < 10 → f < 10 → g < 10 → h < 10
    → day_of_text ((48 + a) ∷ (48 + b) ∷ (48 + c) ∷ (48 + d) ∷ 45 ∷ (48 + e) ∷ (48 + f) ∷ 45 ∷ (48 + g) ∷ (48 + h) ∷ [])
    ≡ day_of_civil (pos ((((0 * 10 + a) * 10 + b) * 10 + c) * 10 + d)) ((0 * 10 + e) * 10 + f) ((0 * 10 + g) * 10 + h)
unfolding day_of_text
day_of_text-digits a b c d e f g h ha hb hc hd he hf hg hh =
    rw (
      digit_is a ha,
      digit_is b hb,
      digit_is c hc,
      digit_is d hd,
      digit_is e he,
      digit_is f hf,
      digit_is g hg,
      digit_is h hh,
    )
    (rw (
      digit_value_is a ha,
      digit_value_is b hb,
      digit_value_is c hc,
      digit_value_is d hd,
      digit_value_is e he,
      digit_value_is f hf,
      digit_value_is g hg,
      digit_value_is h hh,
    ) refl)

day_of_text-date_text : (y m n : ℕ) → y < 10000 → m < 100 → n < 100 → day_of_text (date_text y m n) ≡ day_of_civil
    (pos y) m n
day_of_text-date_text y m n hy hm hn =
    let year : (((0 * 10 + y / 100 / 10) * 10 + y / 100 % 10) * 10 + y % 100 / 10) * 10 + y % 100 % 10 ≡ y =
    omega arith in
    let month : (0 * 10 + m / 10) * 10 + m % 10 ≡ m = omega arith in
    let day : (0 * 10 + n / 10) * 10 + n % 10 ≡ n = omega arith in
    day_of_text-digits (y / 100 / 10) (y / 100 % 10) (y % 100 / 10) (y % 100 % 10) (m / 10) (m % 10) (n / 10) (n % 10)
    (omega arith) (omega arith) (omega arith) (omega arith) (omega arith) (omega arith) (omega arith) (omega arith)
    ∙ rw (year, month, day) refl

pub day_of_text-day_text : (n : ℤ) → IsDay n → day_of_text (day_text n) ≡ Ok n
unfolding day_text
day_of_text-day_text n h =
    let date = civil_of n in
    let is = civil_of-IsDateOf n h in
    let year : pos (unsigned_abs date.year) ≡ date.year = omega (arith, signed_arith, one_part date.year, is.first) in
    let top : unsigned_abs date.year < 10000 = omega (arith, signed_arith, one_part date.year, is.first, is.civil.0.1)
    in
    let short : date.day < 100 = omega (arith, is.civil.2.1, days_in_month_bounds date.year date.month) in
    day_of_text-date_text (unsigned_abs date.year) date.month date.day top (omega (arith, is.civil.1.1)) short
    ∙ rw year (day_of_civil-civil_of n h)
