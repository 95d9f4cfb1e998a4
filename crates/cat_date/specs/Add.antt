-- A day and a duration added: the months first, then the days.
use Rattle.std.specs.Prelude.{ℕ, ◌+◌, ◌-◌, ◌/◌, ◌%◌, nat_le, nat_lt, Bool, false, ◌&&◌, if◌then◌else◌, ℤ, pos, negsuc}
use Rattle.std.specs.Prelude.{◌+ℤ◌, ◌*ℤ◌, unsigned_abs, Result, Ok, Err}
use Rattle.jiff_core.specs.Calendar.{days_in_month}
use Rattle.cat_date.specs.declared.fault.DateFault.{DateFault}
use Rattle.cat_date.specs.declared.fault.DateFault.TheVariants.{Overflow, AmbiguousDate}
use Rattle.cat_date.specs.declared.rounding.Rounding.{Rounding}
use Rattle.cat_date.specs.declared.rounding.Rounding.TheVariants.{Up, Down, Refuse}
use Rattle.cat_date.specs.Calendar.{CivilDate, civil_of, day_number, in_range}
use Rattle.cat_date.specs.Span.{SpanOf}

-- the index of the month so many months after a date's, where January of the year 0 has the index 0
abbrev pub month_index : CivilDate → ℤ → ℤ
month_index date months = pos 12 *ℤ date.year +ℤ pos (date.month - 1) +ℤ months

-- the index of a month of the years 1 to 9999
abbrev pub is_month_index : ℤ → Bool
is_month_index (pos i) = nat_le 12 i && nat_lt i 120_000
is_month_index (negsuc i) = false

-- in place of a day past the end of a month whose last day is `last`
abbrev pub past_month_end : Rounding → ℤ → Result ℤ DateFault
past_month_end Up last = Ok (last +ℤ pos 1)
past_month_end Down last = Ok last
past_month_end Refuse last = Err AmbiguousDate

-- day d of a month, rounded where the month is too short for it
unfoldable pub day_of_month : Rounding → ℤ → ℕ → ℕ → Result ℤ DateFault
day_of_month r y m d =
    if nat_le d (days_in_month y m) then Ok (day_number y m d)
    else past_month_end r (day_number y m (days_in_month y m))

-- the day of a date with the months added
unfoldable pub date_plus_months : CivilDate → ℤ → Rounding → Result ℤ DateFault
date_plus_months date months r =
    let i = month_index date months in
    if is_month_index i then day_of_month r (pos (unsigned_abs i / 12))
    (unsigned_abs i % 12 + 1) date.day else Err Overflow

-- what the months gave, with the days added
abbrev pub plus_days : Result ℤ DateFault → ℤ → Result ℤ DateFault
plus_days (Ok day) days = in_range (day +ℤ days)
plus_days (Err fault) days = Err fault

-- a day with a duration added
abbrev pub day_plus_span : ℤ → SpanOf → Rounding → Result ℤ DateFault
day_plus_span day span r = plus_days (date_plus_months (civil_of day) span.months r) span.days
