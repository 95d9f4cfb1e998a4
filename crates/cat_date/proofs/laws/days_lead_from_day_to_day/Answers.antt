use Rattle.cat_date.proofs.SumOfDays.{day_plus_span-days, day_plus_span-between}
use Rattle.cat_date.proofs.laws.days_lead_from_day_to_day.Goals as goal

pub returns-clause-days : goal.returns-clause-days
returns-clause-days c = day_plus_span-days

pub returns-clause-between : goal.returns-clause-between
returns-clause-between c = day_plus_span-between
