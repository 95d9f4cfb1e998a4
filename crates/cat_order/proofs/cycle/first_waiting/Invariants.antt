use Rattle.std.proofs.Common.{◌≡◌, drop}
use Rattle.cat_order.specs.inside.Steps.{any_waiting}
use Rattle.cat_order.proofs.cycle.first_waiting.Given as goal

-- the rest has a waiting dependency, as the whole has
abbrev pub invariant-loop-dependency : goal.invariant-loop-dependency
invariant-loop-dependency l = any_waiting l.unmet (drop l.dependency-index l.dependencies) ≡ any_waiting l.unmet
    l.dependencies
