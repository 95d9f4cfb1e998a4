use Rattle.cat_date.proofs.CalendarLemmas.{civil-is_civil, civil_of-day_number}
use Rattle.cat_date.proofs.DateOfDay.{day_of_civil-civil_of}
use Rattle.cat_date.proofs.laws.days_are_dates.Goals as goal

pub returns-clause-date : goal.returns-clause-date
returns-clause-date c = λ y m d h. let civil = civil-is_civil y m d h in civil_of-day_number y m d civil.0 civil.1

pub returns-clause-day : goal.returns-clause-day
returns-clause-day c = day_of_civil-civil_of
