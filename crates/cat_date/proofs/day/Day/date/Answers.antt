use Rattle.std.proofs.Common.{◌≡◌, ◌∙◌, subst, sym, to_z-of_z, FitsSigned, w64, rules}
use Rattle.jiff_core.specs.Date.{epoch_day}
use Rattle.cat_date.specs.Calendar.{IsDay}
use Rattle.cat_date.proofs.CalendarLemmas.{civil_of-epoch_day, year-IsDay}
use Rattle.cat_date.proofs.day.Day.date.Goals as goal

pub returns-clause-in_range : goal.returns-clause-in_range
returns-clause-in_range c =
    let fits : FitsSigned w64 c.self.inside.number = search rules in
    let is : epoch_day c.date_at.result ≡ c.self.inside.number = simp to_z-of_z at c.date_at.ensures in
    year-IsDay c.date_at.result (subst IsDay (sym is) c.self.invariant)

pub returns-clause-parts : goal.returns-clause-parts
returns-clause-parts c =
    let fits : FitsSigned w64 c.self.inside.number = search rules in
    let is : epoch_day c.date_at.result ≡ c.self.inside.number = simp to_z-of_z at c.date_at.ensures in
    civil_of-epoch_day c.date_at.result _ (is ∙ c.self.view_is) (returns-clause-in_range c)
