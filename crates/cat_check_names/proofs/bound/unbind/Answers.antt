use Rattle.cat_check_names.proofs.Popping.{one_less}
use Rattle.cat_check_names.proofs.bound.unbind.Goals as goal

pub loop-preserved : goal.loop-preserved
loop-preserved c =
    one_less c.args.bound.now c.loop.bound c.pop.new.self c.pop.result c.args.count c.loop.counter c.loop.invariant
    c.pop.ensures
