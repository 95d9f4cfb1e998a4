use Rattle.cat_num.proofs.Order.{IsOrder-frac_order}
use Rattle.cat_num.proofs.laws.fractions_are_ordered.Goals as goal

pub returns : goal.returns
returns c = IsOrder-frac_order
