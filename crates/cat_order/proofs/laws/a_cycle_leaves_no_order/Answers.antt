use Rattle.cat_order.proofs.Theorems.{no_order_of_IsOnCycle}
use Rattle.cat_order.proofs.laws.a_cycle_leaves_no_order.Goals as goal

pub returns : goal.returns
returns c = no_order_of_IsOnCycle
