use Rattle.cat_order.proofs.Theorems.{dependency_before}
use Rattle.cat_order.proofs.laws.the_order_puts_dependencies_first.Goals as goal

pub returns : goal.returns
returns c = dependency_before
