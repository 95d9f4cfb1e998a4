use Rattle.std.proofs.Common.{rules, ◌≤◌}
use Rattle.cat_lower.proofs.Rests.{step_on, end_on}
use Rattle.cat_lower.proofs.Picking.{bind_next, bind_end}
use Rattle.cat_lower.proofs.fields.put_binds.Goals as goal

pub loop-preserved : goal.loop-preserved
loop-preserved c =
    λ new. step_on _ _ _ new _ _ _ _ (bind_next _ _ c.loop-test.true) c.loop.invariant c.in_ok-put.ensures

pub returns : goal.returns
returns c =
    let most : c.args.count ≤ c.loop.counter = search rules in
    end_on _ _ _ _ (bind_end c.args.count c.loop.counter most) c.loop.invariant
