use Rattle.std.proofs.Common.{◌≡◌, ◌∙◌, sym, ap, refl, Ok, arith, ◌+ℤ◌, to_z-of_z, FitsSigned, w64, rules}
use Rattle.std.proofs.lemmas.Int.{ints}
use Rattle.jiff_core.specs.Date.{epoch_day}
use Rattle.cat_date.proofs.CalendarLemmas.{in_range-date, in_range-early}
use Rattle.cat_date.proofs.add.plus_days.Goals as goal

pub returns-then-year-lt1 : goal.returns-then-year-lt1
returns-then-year-lt1 c =
    let fits : FitsSigned w64 c.args.days = search rules in
    let sum : epoch_day c.in-Ok.plain ≡ epoch_day c.to_plain.result +ℤ c.args.days =
    simp to_z-of_z at c.in-Ok.ensures.value in
    let day : epoch_day c.from_plain-date.result ≡ c.args.day +ℤ c.args.days =
    rw c.from_plain-date.ensures (sum ∙ rw (c.to_plain.ensures, c.date.ensures.value) refl) in
    sym (in_range-early c.from_plain-date.result _ day (omega (arith, ints)))

pub returns : goal.returns
returns c =
    let fits : FitsSigned w64 c.args.days = search rules in
    let sum : epoch_day c.in-Ok.plain ≡ epoch_day c.to_plain.result +ℤ c.args.days =
    simp to_z-of_z at c.in-Ok.ensures.value in
    let day : epoch_day c.from_plain-date.result ≡ c.args.day +ℤ c.args.days =
    rw c.from_plain-date.ensures (sum ∙ rw (c.to_plain.ensures, c.date.ensures.value) refl) in
    ap Ok c.from_date.ensures ∙ sym (in_range-date c.from_plain-date.result _ day (omega (arith, ints)))
