-- Each day in range has a date of the calendar, whose number it is.
use Rattle.std.proofs.Common.{◌≡◌, ℕ, suc, ◌+◌, ◌-◌, ◌<◌, ◌≤◌, inl, inr, Ok, refl, ap, ◌∙◌, arith, ℤ, pos, ◌-ℤ◌, ◌≤ℤ◌}
use Rattle.std.proofs.Common.{unsigned_abs}
use Rattle.std.proofs.lemmas.Bool.{cases_order}
use Rattle.jiff_core.specs.Calendar.{day_of_year, days_in_month, days_in_year, days_of_months, IsCivilDate}
use Rattle.jiff_core.proofs.SignedLemmas.{signed_arith, one_part}
use Rattle.jiff_core.proofs.CalendarLemmas.{days_of_months_more, days_of_months_all}
use Rattle.cat_date.specs.Calendar.{IsDay, first_day, CivilDate, days_of_years, day_number, whole_years, whole_months}
use Rattle.cat_date.specs.Calendar.{date_in_year, date_after, civil_of, day_of_civil}
use Rattle.cat_date.proofs.CalendarLemmas.{bounds-IsDay, days_of_years-suc, days_of_years-mono, whole_years-bounds}
use Rattle.cat_date.proofs.CalendarLemmas.{whole_months-bounds, day_of_civil-civil}

-- the date is the one of that year whose index in it is n, from 0
record IsInYear (y : ℤ) (n : ℕ) (date : CivilDate) : Type 0 where
  year : date.year ≡ y
  month : (1 ≤ date.month) × (date.month ≤ 12)
  day : (1 ≤ date.day) × (date.day ≤ days_in_month y date.month)
  place : day_of_year y date.month date.day ≡ n + 1

date_in_year-IsInYear : (y : ℤ) (n : ℕ) → n < days_in_year y → IsInYear y n (date_in_year y n)
unfolding date_in_year
date_in_year-IsInYear y n h =
    let w = whole_months y 11 n in
    let within : n < days_of_months y 12 = rw (days_of_months_all y) h in
    let at = whole_months-bounds y 11 n within in
    let back : w + 1 - 1 ≡ w = omega arith in
    let more : days_of_months y (w + 1) ≡ days_of_months y w + days_in_month y (w + 1) =
    rw back at (days_of_months_more y (w + 1) (omega arith)) in
    let next : suc w ≡ w + 1 = omega arith in
    let before : n < days_of_months y (w + 1) = rw next at at.1 in
    record {
      year = refl;
      month = (omega arith, omega (arith, at.2));
      day = (omega arith, omega (arith, at.0));
      place = rw back (omega (arith, at.0));
    }

-- the date of a number of days after 0001-01-01, before the year 10000
record IsDateAfter (n : ℕ) (date : CivilDate) : Type 0 where
  pub civil : IsCivilDate date.year date.month date.day
  pub first : pos 1 ≤ℤ date.year
  pub number : days_of_years (unsigned_abs date.year - 1) + day_of_year date.year date.month date.day ≡ n + 1

IsDateAfter-of_IsInYear : (n k : ℕ) (y : ℤ) (date : CivilDate) → y ≡ pos (suc k) → k < 9999 → days_of_years k ≤ n
    → IsInYear y (n - days_of_years k) date → IsDateAfter n date
IsDateAfter-of_IsInYear n k y date e top low h =
    let year : date.year ≡ pos (suc k) = h.year ∙ e in
    let years : unsigned_abs date.year - 1 ≡ k = omega (arith, signed_arith, one_part date.year) in
    let place : day_of_year date.year date.month date.day ≡ n - days_of_years k + 1 = rw h.year h.place in
    record {
      civil = ((omega (arith, signed_arith), omega (arith, signed_arith)), h.month, rw h.year h.day);
      first = omega (arith, signed_arith);
      number = rw years (omega arith);
    }

date_after-IsDateAfter : (n : ℕ) → n < days_of_years 9999 → IsDateAfter n (date_after n)
unfolding date_after
date_after-IsDateAfter n top =
    let k = whole_years n in
    let at = whole_years-bounds n in
    let year : pos (k + 1) ≡ pos (suc k) = ap pos (omega arith) in
    let rest : n - days_of_years k < days_in_year (pos (k + 1)) =
    omega (arith, days_of_years-suc k, ap days_in_year year, at.0, at.1) in
    let early : k < 9999 = early_year k n at.0 top in
    IsDateAfter-of_IsInYear n k (pos (k + 1)) _ year early at.0
    (date_in_year-IsInYear (pos (k + 1)) (n - days_of_years k) rest)
  where
    early_year : (k n : ℕ) → days_of_years k ≤ n → n < days_of_years 9999 → k < 9999
    early_year k n low high = elim (cases_order k 9999) [
      | inr (inl lt) ↦ lt
      | inl e ↦ absurd (omega (arith, ap days_of_years e))
      | inr (inr gt) ↦ absurd (omega (arith, days_of_years-mono 9999 k (omega arith)))
    ]

-- what the calendar says of the date of a day
pub record IsDateOf (n : ℤ) (date : CivilDate) : Type 0 where
  pub civil : IsCivilDate date.year date.month date.day
  pub first : pos 1 ≤ℤ date.year
  pub number : day_number date.year date.month date.day ≡ n

pub civil_of-IsDateOf : (n : ℤ) → IsDay n → IsDateOf n (civil_of n)
unfolding civil_of day_number
civil_of-IsDateOf n h =
    let range = bounds-IsDay n h in
    let x = unsigned_abs (n -ℤ first_day) in
    let last : days_of_years 9999 ≡ 3_652_059 = unfold days_of_years in refl in
    let date = date_after-IsDateAfter x (omega (arith, signed_arith, one_part (n -ℤ first_day))) in
    record {
      civil = date.civil;
      first = date.first;
      number = omega (arith, signed_arith, one_part (n -ℤ first_day), date.number);
    }

pub day_of_civil-civil_of : (n : ℤ) → IsDay n
    → day_of_civil (civil_of n).year (civil_of n).month (civil_of n).day ≡ Ok n
day_of_civil-civil_of n h =
    let date = civil_of-IsDateOf n h in
    day_of_civil-civil _ _ _ date.civil date.first ∙ ap Ok date.number
