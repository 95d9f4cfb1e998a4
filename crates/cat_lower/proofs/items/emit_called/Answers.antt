use Rattle.cat_lower.proofs.Grows.{then_ok}
use Rattle.cat_lower.proofs.items.emit_called.Goals as goal

pub returns : goal.returns
returns c =
    then_ok _ _ _ _ _ _ c.in_ok-put.ensures (then_ok _ _ _ _ _ _ c.in_ok-emit_given_inners.ensures
    (then_ok _ _ _ _ _ _ c.in_ok-put-2.ensures c.put-3.ensures))
