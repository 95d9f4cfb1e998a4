use Rattle.cat_date.proofs.RoundTrip.{day_of_text-day_text}
use Rattle.cat_date.proofs.laws.shown_days_are_read.Goals as goal

pub returns : goal.returns
returns c = day_of_text-day_text
