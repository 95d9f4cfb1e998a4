use Rattle.std.proofs.Common.{take}
use Rattle.cat_except.specs.inside.Chains.{AreMeasured}
use Rattle.cat_except.proofs.chains.past_limit.Given as goal

abbrev pub invariant-loop-group : goal.invariant-loop-group
invariant-loop-group l = AreMeasured l.excepted (take l.group-index l.order) l.chains.items
