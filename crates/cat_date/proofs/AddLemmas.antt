-- A day in its month, and what stands in its place where the month is too short.
use Rattle.std.proofs.Common.{◌≡◌, ℕ, ◌+◌, ◌<◌, ◌≤◌, Ok, refl, arith, ℤ, pos, ◌+ℤ◌, ◌≤ℤ◌}
use Rattle.jiff_core.specs.Calendar.{days_in_month}
use Rattle.jiff_core.proofs.DateLemmas.{days_from_civil-next_month}
use Rattle.jiff_core.proofs.CalendarLemmas.{days_in_month_bounds}
use Rattle.cat_date.specs.declared.rounding.Rounding.{Rounding}
use Rattle.cat_date.specs.Calendar.{day_number}
use Rattle.cat_date.specs.Add.{day_of_month, past_month_end}
use Rattle.cat_date.proofs.CalendarLemmas.{days_from_civil-day_number, nat_le-true, nat_le-false}

pub day_of_month-within : (r : Rounding) (y : ℤ) (m n : ℕ) → n ≤ days_in_month y m → day_of_month r y m n ≡ Ok
    (day_number y m n)
unfolding day_of_month
day_of_month-within r y m n h = rw (nat_le-true h) refl

pub day_of_month-past : (r : Rounding) (y : ℤ) (m n : ℕ) → days_in_month y m < n → day_of_month r y m n ≡ past_month_end
    r (day_number y m (days_in_month y m))
unfolding day_of_month
day_of_month-past r y m n h = rw (nat_le-false h) refl

pub day_number-next_month : (y : ℤ) (m : ℕ) → pos 1 ≤ℤ y → 1 ≤ m → day_number y (m + 1) 1 ≡ day_number y m
    (days_in_month y m) +ℤ pos 1
day_number-next_month y m low h =
    let some : 1 ≤ days_in_month y m = omega (arith, days_in_month_bounds y m) in
    rw (
      ← days_from_civil-day_number y (m + 1) 1 low (omega arith),
      ← days_from_civil-day_number y m (days_in_month y m)
          low some,
    )
    (days_from_civil-next_month y m (days_in_month y m) h refl)
