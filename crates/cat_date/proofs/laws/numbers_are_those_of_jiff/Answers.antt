use Rattle.std.proofs.Common.{sym}
use Rattle.cat_date.proofs.CalendarLemmas.{civil-is_civil, days_from_civil-day_number}
use Rattle.cat_date.proofs.laws.numbers_are_those_of_jiff.Goals as goal

pub returns : goal.returns
returns c = λ y m d h. let civil = civil-is_civil y m d h in sym (days_from_civil-day_number y m d civil.1 civil.0.2.0)
