-- Which numbers, amounts, days and durations are values of which types.
use Rattle.std.specs.Prelude.{ℤ, Bool, false}
use Rattle.cat_num.specs.Whole.{fits}
use Rattle.cat_num.specs.Frac.{Fraction, is_reduced}
use Rattle.cat_date.specs.Calendar.{is_day}
use Rattle.cat_date.specs.Span.{SpanOf, is_span}
use Rattle.cat_value.specs.declared.ty.Ty.{Ty}
use Rattle.cat_value.specs.declared.ty.Ty.TheOpen.{Ty-F}

-- whether a fraction is in lowest terms with a positive denominator, and both parts fit
abbrev pub is_decimal : Fraction → Bool
is_decimal f = is_reduced f

-- an integer has the type Integer, where it fits
abbrev pub integer_typed : ℤ → Ty-F Ty → Bool
integer_typed n Ty-F.Integer = fits n
integer_typed n _ = false

-- a decimal has the type Decimal, where it fits
abbrev pub decimal_typed : Fraction → Ty-F Ty → Bool
decimal_typed f Ty-F.Decimal = is_decimal f
decimal_typed f _ = false

-- an amount of cents has the type Money, where it fits
abbrev pub money_typed : ℤ → Ty-F Ty → Bool
money_typed n Ty-F.Money = fits n
money_typed n _ = false

-- a day has the type Date, where the calendar has it
abbrev pub date_typed : ℤ → Ty-F Ty → Bool
date_typed day Ty-F.Date = is_day day
date_typed day _ = false

-- a duration has the type Duration, where its months and days are in range
abbrev pub duration_typed : SpanOf → Ty-F Ty → Bool
duration_typed span Ty-F.Duration = is_span span
duration_typed span _ = false
