use Rattle.cat_order.proofs.Theorems.{one_order}
use Rattle.cat_order.proofs.laws.the_order_is_one.Goals as goal

pub returns : goal.returns
returns c = one_order
