use Rattle.std.proofs.Common.{rules, sym}
use Rattle.cat_check_forms.proofs.AllThere.{missing}
use Rattle.cat_check_forms.proofs.number_set.NumberSet.has_all.Goals as goal

pub returns-then-not-has : goal.returns-then-not-has
returns-then-not-has c =
    sym (missing c.args.count c.loop-number.number c.args.self.now (search rules) (search rules))
