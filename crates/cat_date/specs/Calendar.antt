-- The proleptic Gregorian calendar from 0001-01-01 to 9999-12-31, by day numbers: days since 1970-01-01.
use Rattle.std.specs.Prelude.{ℕ, zero, suc, ◌+◌, ◌-◌, ◌*◌, ◌/◌, nat_le, Bool, ◌&&◌, if◌then◌else◌, IsTrue, ℤ, pos}
use Rattle.std.specs.Prelude.{negsuc, ◌-ℤ◌, int_le, unsigned_abs, Result, Ok, Err}
use Rattle.jiff_core.specs.Calendar.{days_in_month, days_of_months, day_of_year}
use Rattle.cat_date.specs.declared.fault.DateFault.{DateFault}
use Rattle.cat_date.specs.declared.fault.DateFault.TheVariants.{Overflow, NotADay}

-- the number of 0001-01-01
abbrev pub first_day : ℤ
first_day = negsuc 719_161

-- the number of 9999-12-31
abbrev pub last_day : ℤ
last_day = pos 2_932_896

-- the number of a day from the first to the last
abbrev pub is_day : ℤ → Bool
is_day n = int_le first_day n && int_le n last_day

-- the same as a fact: what holds of each value of `Day`
abbrev pub IsDay : ℤ → Type 0
IsDay n = IsTrue (is_day n)

-- the day of that number, where there is one
abbrev pub in_range : ℤ → Result ℤ DateFault
in_range n = if is_day n then Ok n else Err Overflow

-- a date of the calendar
pub record CivilDate : Type 0 where
  pub year : ℤ
  pub month : ℕ
  pub day : ℕ

-- the calendar has this date, in a year from 1 to 9999
abbrev pub is_civil : ℤ → ℕ → ℕ → Bool
is_civil y m d = int_le (pos 1) y && int_le y (pos 9999) && nat_le 1 m && nat_le m 12 && nat_le 1 d
    && nat_le d (days_in_month y m)

-- the days of the first n years from the year 1 on: of each fourth one more, but of the centuries only of each fourth
unfoldable pub days_of_years : ℕ → ℕ
days_of_years n = 365 * n + (n / 4 + n / 400 - n / 100)

-- the number of a date from the year 1 on
unfoldable pub day_number : ℤ → ℕ → ℕ → ℤ
day_number y m d = pos (days_of_years (unsigned_abs y - 1) + day_of_year y m d) -ℤ pos 719_163

-- how many whole years n days after 0001-01-01 are: as many as the mean year of 365.2425 days tells, or one more
unfoldable pub whole_years : ℕ → ℕ
whole_years n = if nat_le (days_of_years (n * 400 / 146_097 + 1)) n then n * 400 / 146_097 + 1 else n * 400 / 146_097

-- how many whole months n days after the year's first are, of the first k months
unfoldable pub whole_months : ℤ → ℕ → ℕ → ℕ
whole_months y zero n = 0
whole_months y (suc k) n = if nat_le (days_of_months y (suc k)) n then suc k else whole_months y k n

-- the date n days after the year's first
unfoldable pub date_in_year : ℤ → ℕ → CivilDate
date_in_year y n =
    record { year = y; month = whole_months y 11 n + 1; day = n - days_of_months y (whole_months y 11 n) + 1 }

-- the date n days after 0001-01-01
unfoldable pub date_after : ℕ → CivilDate
date_after n = date_in_year (pos (whole_years n + 1)) (n - days_of_years (whole_years n))

-- the date of a day in range
unfoldable pub civil_of : ℤ → CivilDate
civil_of day = date_after (unsigned_abs (day -ℤ first_day))

-- the day with this year, month and day of the month
unfoldable pub day_of_civil : ℤ → ℕ → ℕ → Result ℤ DateFault
day_of_civil y m d = if is_civil y m d then Ok (day_number y m d) else Err NotADay
