use Rattle.cat_lower.proofs.Grows.{grown_then}
use Rattle.cat_lower.proofs.Patches.{all_closed}
use Rattle.cat_lower.proofs.closing.close_all.Goals as goal

pub returns : goal.returns
returns c =
    all_closed c.args.growing.now _ _ _ _ _ _ _ _ _ _ _ _ _ _
    (grown_then _ _ _ _ _ c.in_ok-test.ensures.grown c.in_ok-put.ensures) c.in_ok-test.ensures.place
    c.in_ok-failed.ensures
    c.patch.ensures c.in_ok-back.ensures (grown_then _ _ _ _ _ c.in_ok-put-2.ensures c.in_ok-put_truth.ensures)
    c.in_ok-found.ensures.grown c.in_ok-found.ensures.place c.in_ok-end.ensures c.patch-2.ensures
    c.in_ok-put_truth-2.ensures
    c.in_ok-out.ensures c.patch-3.ensures
