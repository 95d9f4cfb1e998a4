-- Durations of months and days: which ones there are, their order and their arithmetic.
use Rattle.std.specs.Prelude.{Bool, ◌&&◌, if◌then◌else◌, IsTrue, ℤ, pos, neg_ℤ, ◌+ℤ◌, ◌-ℤ◌, ◌*ℤ◌, Result, Ok, Err}
use Rattle.std.specs.Ordering.{int_eq, int_cmp}
use Rattle.std.specs.declared.cmp.Ordering.{Ordering}
use Rattle.cat_num.specs.Whole.{fits}
use Rattle.cat_date.specs.declared.fault.DateFault.{DateFault}
use Rattle.cat_date.specs.declared.fault.DateFault.TheVariants.{Overflow, Uncomparable}

-- a duration, as contracts see it: a year is 12 months
pub record SpanOf : Type 0 where
  pub months : ℤ
  pub days : ℤ

-- a number that a part may be
abbrev pub is_part : ℤ → Bool
is_part n = fits n

-- both parts are such numbers
abbrev pub is_span : SpanOf → Bool
is_span s = is_part s.months && is_part s.days

-- the same as a fact: what holds of each value of `Span`
abbrev pub IsSpan : SpanOf → Type 0
IsSpan s = IsTrue (is_span s)

-- the duration, where both parts fit
unfoldable pub span_in_range : SpanOf → Result SpanOf DateFault
span_in_range s = if is_span s then Ok s else Err Overflow

-- so many days, and no months
abbrev pub span_of_days : ℤ → SpanOf
span_of_days n = record { months = pos 0; days = n }

-- the sum, part by part
abbrev pub span_sum : SpanOf → SpanOf → Result SpanOf DateFault
span_sum a b = span_in_range (record { months = a.months +ℤ b.months; days = a.days +ℤ b.days })

-- the difference, part by part
abbrev pub span_difference : SpanOf → SpanOf → Result SpanOf DateFault
span_difference a b = span_in_range (record { months = a.months -ℤ b.months; days = a.days -ℤ b.days })

-- both parts times n
abbrev pub span_multiple : SpanOf → ℤ → Result SpanOf DateFault
span_multiple a n = span_in_range (record { months = a.months *ℤ n; days = a.days *ℤ n })

-- the same way back
abbrev pub span_negated : SpanOf → SpanOf
span_negated a = record { months = neg_ℤ a.months; days = neg_ℤ a.days }

-- by months where neither has days, by days where neither has months, and no order else
unfoldable pub compared_spans : SpanOf → SpanOf → Result Ordering DateFault
compared_spans a b =
    if int_eq a.days (pos 0) && int_eq b.days (pos 0) then Ok (int_cmp a.months b.months)
    else (if int_eq a.months (pos 0) && int_eq b.months (pos 0) then Ok (int_cmp a.days b.days) else Err Uncomparable)
