-- A duration of days alone adds its days, so that the days between two days lead from one to the other.
use Rattle.std.proofs.Common.{◌≡◌, ℕ, ◌+◌, ◌-◌, ◌*◌, ◌/◌, ◌%◌, ◌≤◌, nat_le, nat_lt, ◌&&◌, true, Ok, sym, ap, ◌∙◌, arith}
use Rattle.std.proofs.Common.{ℤ, pos, ◌+ℤ◌, ◌-ℤ◌, unsigned_abs}
use Rattle.std.proofs.lemmas.Bool.Decides.{nat_tests}
use Rattle.jiff_core.specs.Calendar.{days_in_month}
use Rattle.jiff_core.proofs.SignedLemmas.{signed_arith, one_part}
use Rattle.cat_date.specs.declared.rounding.Rounding.{Rounding}
use Rattle.cat_date.specs.Calendar.{IsDay, civil_of, day_number, in_range}
use Rattle.cat_date.specs.Span.{span_of_days}
use Rattle.cat_date.specs.Add.{date_plus_months, plus_days, day_plus_span}
use Rattle.cat_date.proofs.CalendarLemmas.{in_range-true}
use Rattle.cat_date.proofs.AddLemmas.{day_of_month-within}
use Rattle.cat_date.proofs.DateOfDay.{civil_of-IsDateOf}

in_years : (y m : ℕ) → 1 ≤ y → y ≤ 9999 → m ≤ 12
    → (nat_le 12 (12 * y + (m - 1) + 0) && nat_lt (12 * y + (m - 1) + 0) 120_000) ≡ true
in_years y m low high top = grind (arith, nat_tests)

date_plus_months-none : (y m d : ℕ) (r : Rounding) → 1 ≤ y → y ≤ 9999 → 1 ≤ m → m ≤ 12 → d ≤ days_in_month (pos y) m
    → date_plus_months (record { year = pos y; month = m; day = d }) (pos 0) r ≡ Ok (day_number (pos y) m d)
unfolding date_plus_months
date_plus_months-none y m d r low high first last short =
    let year : (12 * y + (m - 1) + 0) / 12 ≡ y = omega arith in
    let month : (12 * y + (m - 1) + 0) % 12 + 1 ≡ m = omega arith in
    rw (in_years y m low high last, year, month) (day_of_month-within r (pos y) m d short)

same_months : (day : ℤ) (r : Rounding) → IsDay day → date_plus_months (civil_of day) (pos 0) r ≡ Ok day
same_months day r h =
    let date = civil_of day in
    let is = civil_of-IsDateOf day h in
    let y = unsigned_abs date.year in
    let year : date.year ≡ pos y = omega (arith, signed_arith, one_part date.year, is.first) in
    let low : 1 ≤ y = omega (arith, signed_arith, one_part date.year, is.first) in
    let high : y ≤ 9999 = omega (arith, signed_arith, one_part date.year, is.first, is.civil.0.1) in
    let short : date.day ≤ days_in_month (pos y) date.month =
    omega (arith, is.civil.2.1, ap (λ (x : ℤ). days_in_month x date.month) year) in
    ap (λ (x : ℤ). date_plus_months (record { year = x; month = date.month; day = date.day }) (pos 0) r) year
    ∙ date_plus_months-none y date.month date.day r low high is.civil.1.0 is.civil.1.1 short
    ∙ ap (λ (x : ℤ). Ok (day_number x date.month date.day)) (sym year)
    ∙ ap Ok is.number

pub day_plus_span-days : (day days : ℤ) (r : Rounding) → IsDay day → day_plus_span day (span_of_days days) r ≡ in_range
    (day +ℤ days)
day_plus_span-days day days r h = ap (λ sum. plus_days sum days) (same_months day r h)

pub day_plus_span-between : (later earlier : ℤ) (r : Rounding) → IsDay later → IsDay earlier
    → day_plus_span earlier (span_of_days (later -ℤ earlier)) r ≡ Ok later
day_plus_span-between later earlier r h k =
    let back : earlier +ℤ (later -ℤ earlier) ≡ later = omega (arith, signed_arith) in
    day_plus_span-days earlier (later -ℤ earlier) r k ∙ rw back (in_range-true later h)
