-- Day numbers are those of `jiff`, and the date of a day's number is the date that has it.
use Rattle.std.proofs.Common.{◌≡◌, ℕ, zero, suc, ◌+◌, ◌-◌, ◌*◌, ◌/◌, ◌<◌, ◌≤◌, inl, inr, nat_le, int_le, ◌&&◌, Bool}
use Rattle.std.proofs.Common.{true, false, Ok, Err, subst, refl, sym, ap, ◌∙◌, arith, ℤ, pos, negsuc, ◌+ℤ◌, ◌-ℤ◌, ◌<ℤ◌}
use Rattle.std.proofs.Common.{◌≤ℤ◌, unsigned_abs}
use Rattle.std.proofs.lemmas.Bool.{cases_order}
use Rattle.std.proofs.lemmas.Bool.Decides.{nat_tests}
use Rattle.std.proofs.lemmas.Int.{ints, by_lt_z}
use Rattle.jiff_core.specs.declared.civil.date.Date.{Date}
use Rattle.jiff_core.specs.Calendar.{day_of_year, days_in_month, days_in_year, days_of_months, day_count}
use Rattle.jiff_core.specs.Calendar.{days_from_civil, IsCivilDate}
use Rattle.jiff_core.specs.Date.{epoch_day}
use Rattle.jiff_core.specs.March.{march_days}
use Rattle.jiff_core.proofs.SignedLemmas.{signed_arith, one_part}
use Rattle.jiff_core.proofs.MarchLemmas.{day_count-early, march_days-suc, days_in_year-leap_day}
use Rattle.jiff_core.proofs.CalendarLemmas.{day_count-epoch, days_from_civil-day_count, day_count-day_of_year}
use Rattle.jiff_core.proofs.CalendarLemmas.{day_count-lt_year, day_of_year_bound, days_of_months_mono}
use Rattle.jiff_core.proofs.CalendarLemmas.{days_of_months_more, days_of_months-zero}
use Rattle.jiff_core.proofs.DateLemmas.{civil, epoch_day_range}
use Rattle.cat_date.specs.Calendar.{is_day, IsDay, first_day, in_range, is_civil, day_of_civil, days_of_years}
use Rattle.cat_date.specs.Calendar.{day_number, whole_years, whole_months, date_in_year, date_after, civil_of}
use Rattle.cat_date.specs.declared.fault.DateFault.TheVariants.{Overflow}

-- the years of `jiff` that begin in March, counted from the year -10000
days_of_years-march : (k : ℕ) → march_days (k + 10000) ≡ days_of_years k + 3_652_425
unfolding days_of_years
days_of_years-march k = omega arith

day_count-first : (y : ℤ) → pos 1 ≤ℤ y → day_count y 1 1 ≡ days_of_years (unsigned_abs y - 1) + 3_652_791
day_count-first y h =
    let k = unsigned_abs y - 1 in
    let shift : y +ℤ pos 10000 ≡ pos (suc (k + 10000)) = omega (arith, signed_arith, one_part y) in
    omega (
      arith,
      day_count-early y (k + 10000) 1 1 shift (omega arith) (omega arith) (omega arith),
      days_of_years-march k,
    )

day_count-one : day_count (pos 1) 1 1 ≡ 3_652_791
unfolding days_of_years
day_count-one = day_count-first (pos 1) (omega (arith, signed_arith))

pub days_from_civil-day_number : (y : ℤ) (m d : ℕ) → pos 1 ≤ℤ y → 1 ≤ d → days_from_civil y m d ≡ day_number y m d
unfolding day_number
days_from_civil-day_number y m d low first =
    omega (
      arith,
      signed_arith,
      days_from_civil-day_count y m d,
      day_count-day_of_year y m d first,
      day_count-first y low,
    )

pub IsDay-bounds : (n : ℤ) → negsuc 719_161 ≤ℤ n → n ≤ℤ pos 2_932_896 → IsDay n
IsDay-bounds n low high = grind (arith, ints)

pub bounds-IsDay : (n : ℤ) → IsDay n → (negsuc 719_161 ≤ℤ n) × (n ≤ℤ pos 2_932_896)
bounds-IsDay n h = grind (arith, ints)

pub epoch_day-day_number : (d : Date) → pos 1 ≤ℤ d.year → epoch_day d ≡ day_number d.year d.month d.day
epoch_day-day_number d low = days_from_civil-day_number d.year d.month d.day low d.day_in.0

-- the dates in range are those from the year 1 on
pub IsDay-epoch_day : (d : Date) → pos 1 ≤ℤ d.year → IsDay (epoch_day d)
unfolding day_number
IsDay-epoch_day d low =
    let range = epoch_day_range d in
    let first : 1 ≤ d.day = d.day_in.0 in
    IsDay-bounds (epoch_day d) (omega (arith, signed_arith, epoch_day-day_number d low)) range.1

pub year-IsDay : (d : Date) → IsDay (epoch_day d) → pos 1 ≤ℤ d.year
year-IsDay d h =
    let range = bounds-IsDay (epoch_day d) h in
    by_lt_z d.year (pos 1)
    (λ lt. absurd
    (omega (
      arith,
      signed_arith,
      days_from_civil-day_count,
      day_count-lt_year d.year d.month d.day (pos 1) 1 1
          (civil d) (omega arith) lt,
      day_count-one,
      range.0,
    )))
    (λ le. le)

pub epoch_day-epoch : (d : Date) → d.year ≡ pos 1970 → pos d.month ≡ pos 1 → pos d.day ≡ pos 1 → epoch_day d ≡ pos 0
epoch_day-epoch d year month day =
    let m : d.month ≡ 1 = omega (arith, signed_arith) in
    let n : d.day ≡ 1 = omega (arith, signed_arith) in
    rw (year, m, n) (omega (arith, signed_arith, days_from_civil-day_count (pos 1970) 1 1, day_count-epoch))

-- as many years as are over by then
whole_years-is : (n k : ℕ) → days_of_years k ≤ n → n < days_of_years (suc k) → whole_years n ≡ k
unfolding whole_years days_of_years
whole_years-is n k low high = grind (arith, nat_tests)

pub days_of_years-suc : (k : ℕ) → days_of_years (suc k) ≡ days_of_years k + days_in_year (pos (suc k))
unfolding days_of_years
days_of_years-suc k = omega (arith, march_days-suc k, days_in_year-leap_day (pos (suc k)))

pub nat_le-true : {a b : ℕ} → a ≤ b → nat_le a b ≡ true
nat_le-true h = grind (arith, nat_tests)

pub nat_le-false : {a b : ℕ} → b < a → nat_le a b ≡ false
nat_le-false h = grind (arith, nat_tests)

-- a month that is over by then, and the next one isn't
whole_months-is : (y : ℤ) (k m n : ℕ) → m ≤ k → k ≤ 11 → days_of_months y m ≤ n → n < days_of_months y (suc m)
    → whole_months y k n ≡ m
unfolding whole_months
whole_months-is y zero m n h top low high = omega arith
whole_months-is y (suc k) m n h top low high =
    elim (cases_order m (suc k)) [
      | inr (inl lt) ↦ let past : n < days_of_months y (suc k) =
          omega (arith, days_of_months_mono y (suc m) (suc k) lt) in
          rw (nat_le-false past) (whole_months-is y k m n (omega arith) (omega arith) low high)
      | inl e ↦ let over : days_of_months y (suc k) ≤ n = rw (← e) low in rw (nat_le-true over, e)
      | inr (inr gt) ↦ absurd (omega arith)
    ]

date_in_year-is : (y : ℤ) (m d n : ℕ) → IsCivilDate y m d → n + 1 ≡ day_of_year y m d
    → date_in_year y n ≡ record { year = y; month = m; day = d }
unfolding date_in_year
date_in_year-is y m d n h e =
    let back : suc (m - 1) ≡ m = omega arith in
    let longer : n < days_of_months y (suc (m - 1)) = rw back (omega (arith, days_of_months_more y m h.1.0, h.2.1)) in
    let over : days_of_months y (m - 1) ≤ n = omega (arith, h.2.0) in
    let month : m - 1 + 1 ≡ m = omega arith in
    let day : n - days_of_months y (m - 1) + 1 ≡ d = omega arith in
    rw (whole_months-is y 11 (m - 1) n (omega (arith, h.1.1)) (omega arith) over longer, month, day)

date_after-is : (y : ℤ) (k m d n : ℕ) → IsCivilDate y m d → y ≡ pos (suc k) → n + 1 ≡ days_of_years k + day_of_year y m
    d → date_after n ≡ record { year = y; month = m; day = d }
unfolding date_after
date_after-is y k m d n h e at =
    let year : pos (k + 1) ≡ y = omega (arith, signed_arith) in
    let bound = day_of_year_bound y m d h in
    let longer : n < days_of_years (suc k) = omega (arith, days_of_years-suc k, ap days_in_year e) in
    let rest : n - days_of_years k + 1 ≡ day_of_year y m d = omega (arith, h.2.0) in
    rw (whole_years-is n k (omega (arith, h.2.0)) longer, year) (date_in_year-is y m d _ h rest)

count_of-first_day : (x : ℕ) → 1 ≤ x → unsigned_abs (pos x -ℤ pos 719_163 -ℤ first_day) + 1 ≡ x
count_of-first_day x h = omega (arith, signed_arith, one_part (pos x -ℤ pos 719_163 -ℤ first_day))

-- the date of a date's day is that date
pub civil_of-day_number : (y : ℤ) (m d : ℕ) → IsCivilDate y m d → pos 1 ≤ℤ y → civil_of (day_number y m d)
    ≡ record { year = y; month = m; day = d }
unfolding civil_of day_number
civil_of-day_number y m d h low =
    let k = unsigned_abs y - 1 in
    let year : y ≡ pos (suc k) = omega (arith, signed_arith, one_part y) in
    date_after-is y k m d _ h year (count_of-first_day (days_of_years k + day_of_year y m d) (omega (arith, h.2.0)))

pub civil_of-epoch_day : (d : Date) (z : ℤ) → epoch_day d ≡ z → pos 1 ≤ℤ d.year
    → civil_of z ≡ record { year = d.year; month = d.month; day = d.day }
civil_of-epoch_day d z e low =
    rw (← e, epoch_day-day_number d low) (civil_of-day_number d.year d.month d.day (civil d) low)

pub is_civil-true : (y : ℤ) (m d : ℕ) → IsCivilDate y m d → pos 1 ≤ℤ y → is_civil y m d ≡ true
is_civil-true y m d h low =
    let high : y ≤ℤ pos 9999 = h.0.1 in
    let month = h.1 in
    let day = h.2 in
    grind (arith, ints, nat_tests)

both : (a b : Bool) → (a && b) ≡ true → (a ≡ true) × (b ≡ true)
both true b h = (refl, h)
both false b h = absurd (cc)

nat_le-fact : (a b : ℕ) → nat_le a b ≡ true → a ≤ b
nat_le-fact a b h = grind (arith, nat_tests)

int_le-fact : (a b : ℤ) → int_le a b ≡ true → a ≤ℤ b
int_le-fact a b h = grind (arith, ints)

pub civil-is_civil : (y : ℤ) (m d : ℕ) → is_civil y m d ≡ true → IsCivilDate y m d × (pos 1 ≤ℤ y)
civil-is_civil y m d h =
    let day_high = both _ _ h in
    let day_low = both _ _ day_high.0 in
    let month_high = both _ _ day_low.0 in
    let month_low = both _ _ month_high.0 in
    let year = both _ _ month_low.0 in
    let low = int_le-fact (pos 1) y year.0 in
    let high = int_le-fact y (pos 9999) year.1 in (
      (
        (omega (arith, signed_arith), high),
        (nat_le-fact 1 m month_low.1, nat_le-fact m 12 month_high.1),
        (nat_le-fact 1 d day_low.1, nat_le-fact d (days_in_month y m) day_high.1),
      ),
      low,
    )

pub day_of_civil-civil : (y : ℤ) (m d : ℕ) → IsCivilDate y m d → pos 1 ≤ℤ y → day_of_civil y m d ≡ Ok (day_number y m d)
unfolding day_of_civil
day_of_civil-civil y m d h low = rw (is_civil-true y m d h low) refl

pub day_of_civil-date : (d : Date) (y : ℤ) (m n : ℕ) → d.year ≡ y → d.month ≡ m → d.day ≡ n → pos 1 ≤ℤ y
    → day_of_civil y m n ≡ Ok (day_number d.year d.month d.day)
day_of_civil-date d y m n year month day low =
    rw (← year, ← month, ← day) (day_of_civil-civil d.year d.month d.day (civil d) (rw year low))

pub in_range-true : (z : ℤ) → IsDay z → in_range z ≡ Ok z
in_range-true z h = rw h refl

pub in_range-false : (z : ℤ) → ¬ (IsDay z) → in_range z ≡ Err Overflow
in_range-false z h = rw (not_true (is_day z) h) refl
  where
    not_true : (b : Bool) → ¬ (b ≡ true) → b ≡ false
    not_true true h = absurd (h refl)
    not_true false h = refl

-- a day that falls on a date from the year 1 on is in range, and any other isn't
pub in_range-date : (d : Date) (z : ℤ) → epoch_day d ≡ z → pos 1 ≤ℤ d.year
    → in_range z ≡ Ok (day_number d.year d.month d.day)
in_range-date d z e low =
    let day : IsDay z = subst IsDay e (IsDay-epoch_day d low) in
    in_range-true z day ∙ ap Ok (sym e ∙ epoch_day-day_number d low)

pub in_range-early : (d : Date) (z : ℤ) → epoch_day d ≡ z → d.year <ℤ pos 1 → in_range z ≡ Err Overflow
in_range-early d z e early =
    in_range-false z (λ day. let low = year-IsDay d (subst IsDay (sym e) day) in omega (arith, signed_arith))

-- each count of days falls in the year that is then not over
days_of_years-bounds : (k : ℕ) → (400 * days_of_years k ≤ 146_097 * k + 396)
    × (146_097 * k ≤ 400 * days_of_years k + 699)
unfolding days_of_years
days_of_years-bounds k = omega arith

pub days_of_years-mono : (k l : ℕ) → k ≤ l → days_of_years k ≤ days_of_years l
unfolding days_of_years
days_of_years-mono k l h = omega arith

pub whole_years-bounds : (n : ℕ) → (days_of_years (whole_years n) ≤ n) × (n < days_of_years (suc (whole_years n)))
unfolding whole_years
whole_years-bounds n =
    let g = n * 400 / 146_097 in
    let here = days_of_years-bounds g in
    let next = days_of_years-bounds (g + 1) in
    let after = days_of_years-bounds (suc (g + 1)) in
    let one : suc g ≡ g + 1 = omega arith in
    elim (cases_order (days_of_years (g + 1)) (suc n)) [
      | inr (inl le) ↦ rw (nat_le-true {a = days_of_years (g + 1)} {b = n} (omega arith)) (omega arith, omega arith)
      | inl over ↦ rw (nat_le-false {a = days_of_years (g + 1)} {b = n} (omega arith))
          (omega arith, rw one (omega arith))
      | inr (inr over) ↦ rw (nat_le-false {a = days_of_years (g + 1)} {b = n} (omega arith))
          (omega arith, rw one (omega arith))
    ]

pub whole_months-bounds : (y : ℤ) (k n : ℕ) → n < days_of_months y (suc k) → (days_of_months y (whole_months y k n) ≤ n)
    × (n < days_of_months y (suc (whole_months y k n))) × (whole_months y k n ≤ k)
unfolding whole_months
whole_months-bounds y zero n h = (omega (arith, days_of_months-zero y), h, omega arith)
whole_months-bounds y (suc k) n h =
    elim (cases_order (days_of_months y (suc k)) (suc n)) [
      | inr (inl le) ↦ rw (nat_le-true {a = days_of_months y (suc k)} {b = n} (omega arith))
          (omega arith, h, omega arith)
      | inl over ↦ let rest = whole_months-bounds y k n (omega arith) in
          rw (nat_le-false {a = days_of_months y (suc k)} {b = n} (omega arith)) (rest.0, rest.1, omega (arith, rest.2))
      | inr (inr over) ↦ let rest = whole_months-bounds y k n (omega arith) in
          rw (nat_le-false {a = days_of_months y (suc k)} {b = n} (omega arith)) (rest.0, rest.1, omega (arith, rest.2))
    ]
