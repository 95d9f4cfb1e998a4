use Rattle.std.proofs.Common.{◌∙◌, sym, ap, Ok, pos, arith}
use Rattle.std.proofs.lemmas.Int.{ints}
use Rattle.cat_date.proofs.AddLemmas.{day_of_month-past, day_number-next_month}
use Rattle.cat_date.proofs.add.in_month.Goals as goal

pub returns-in-Up : goal.returns-in-Up
returns-in-Up c =
    rw c.in-Up.is
    (ap Ok (c.day_on-in-Up.ensures ∙ day_number-next_month (pos c.args.year) c.args.month (omega (arith, ints))
    (omega arith))
    ∙ sym (day_of_month-past _ _ _ _ (omega arith)))
