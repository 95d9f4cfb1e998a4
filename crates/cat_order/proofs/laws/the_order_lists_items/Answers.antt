use Rattle.cat_order.proofs.Theorems.{length-IsOrder, items-IsOrder}
use Rattle.cat_order.proofs.laws.the_order_lists_items.Goals as goal

pub returns-clause-length : goal.returns-clause-length
returns-clause-length c = length-IsOrder

pub returns-clause-items : goal.returns-clause-items
returns-clause-items c = items-IsOrder
