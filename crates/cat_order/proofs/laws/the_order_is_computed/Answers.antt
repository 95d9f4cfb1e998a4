use Rattle.cat_order.proofs.Theorems.{order_of-iff_IsOrder}
use Rattle.cat_order.proofs.laws.the_order_is_computed.Goals as goal

pub returns : goal.returns
returns c = order_of-iff_IsOrder
