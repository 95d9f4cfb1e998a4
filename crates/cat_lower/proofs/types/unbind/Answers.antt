use Rattle.cat_pos.proofs.Popping.{popped}
use Rattle.cat_lower.proofs.types.unbind.Goals as goal

pub returns : goal.returns
returns c = popped c.args.locals.now c.pop.new.self c.pop.result c.pop.ensures
