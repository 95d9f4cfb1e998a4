use Rattle.cat_lower.proofs.Grows.{then_ok}
use Rattle.cat_lower.proofs.items.emit_function.Goals as goal

pub returns : goal.returns
returns c = then_ok _ _ _ _ _ _ c.in_ok-emit_variable.ensures c.put.ensures
