use Rattle.std.proofs.Common.{◌≡◌, ◌∙◌, sym, ap, arith, Ok}
use Rattle.std.proofs.lemmas.Int.{ints}
use Rattle.cat_date.proofs.CalendarLemmas.{day_of_civil-date}
use Rattle.cat_date.proofs.day.Day.of.Goals as goal

pub returns-in-Ok : goal.returns-in-Ok
returns-in-Ok c =
    let same = c.in-Ok.ensures.value in
    let year : c.in-Ok.date.year ≡ c.args.year = omega (arith, ints) in
    let month : c.in-Ok.date.month ≡ c.args.month = omega (arith, ints) in
    let day : c.in-Ok.date.day ≡ c.args.day = omega (arith, ints) in
    ap Ok c.from_date.ensures ∙ sym (day_of_civil-date c.in-Ok.date _ _ _ year month day (omega (arith, ints)))
