use Rattle.cat_verify.proofs.StampLemmas.{led_both}
use Rattle.cat_verify.proofs.stamps.pass_on.Goals as goal

pub returns : goal.returns
returns c =
    led_both c.args.arrival.stamp _ _ c.args.waiting.now c.pass_to_next.new.waiting c.pass_by_jump.new.waiting
    c.in_ok-pass_to_next.ensures c.in_ok-pass_by_jump.ensures
