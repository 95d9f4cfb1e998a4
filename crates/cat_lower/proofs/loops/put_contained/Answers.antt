use Rattle.cat_lower.proofs.Grows.{then_ok, grown_then}
use Rattle.cat_lower.proofs.Patches.{closed_on}
use Rattle.cat_lower.proofs.loops.put_contained.Goals as goal

pub returns : goal.returns
returns c =
    then_ok _ _ _ _ _ _ c.in_ok-put.ensures (then_ok _ _ _ _ _ _ c.in_ok-put-2.ensures
    (then_ok _ _ _ _ _ _
    (closed_on _ _ _ _ _ _ _ _ c.in_ok-close_any.ensures c.in_ok-start.ensures.place c.in_ok-start.ensures.grown
    (grown_then _ _ _ _ _ c.in_ok-put_next_local.ensures c.in_ok-put_between.ensures))
    c.put-3.ensures))
