use Rattle.std.proofs.Common.{◌∙◌, to_z-of_z, FitsSigned, w64, rules}
use Rattle.cat_date.proofs.CalendarLemmas.{IsDay-epoch_day, epoch_day-day_number}
use Rattle.cat_date.proofs.day.Day.from_date.Goals as goal

pub invariant_of-result : goal.invariant_of-result
invariant_of-result c =
    let fits : FitsSigned w64 c.epoch_days.result = search rules in
    simp to_z-of_z (rw c.epoch_days.ensures (IsDay-epoch_day c.args.date c.requires))

pub returns : goal.returns
returns c =
    let fits : FitsSigned w64 c.epoch_days.result = search rules in
    simp to_z-of_z (c.epoch_days.ensures ∙ epoch_day-day_number c.args.date c.requires)
