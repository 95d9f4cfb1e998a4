use Rattle.cat_lower.proofs.Targeted.{taken}
use Rattle.cat_lower.proofs.targets.put_taken.Goals as goal

pub returns : goal.returns
returns c =
    taken c.args.growing.now _ _ _ _ _ _ _ _ _ _ c.in_ok-test.ensures.grown c.in_ok-first.ensures.grown
    c.in_ok-put_without_value.ensures c.in_ok-test.ensures.place c.in_ok-first.ensures.place c.in_ok-second.ensures
    c.in_ok-end.ensures c.patch.ensures c.patch-2.ensures
