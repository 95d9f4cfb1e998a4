use Rattle.cat_date.proofs.CalendarLemmas.{epoch_day-epoch}
use Rattle.cat_date.proofs.day.epoch.Goals as goal

pub returns : goal.returns
returns c = epoch_day-epoch c.date.result c.date.ensures.0 c.date.ensures.1 c.date.ensures.2
