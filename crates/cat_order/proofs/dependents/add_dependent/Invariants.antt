use Rattle.std.proofs.Common.{◌≡◌, ◌==◌, ◌+◌, ℕ, if◌then◌else◌, take}
use Rattle.cat_order.specs.Order.{times}
use Rattle.cat_order.specs.inside.Steps.{dependents_of}
use Rattle.cat_order.proofs.dependents.add_dependent.Given as goal

-- the item was added for each dependency walked so far
abbrev pub invariant-loop-dependency : goal.invariant-loop-dependency
invariant-loop-dependency l = (on : ℕ) (other : ℕ) → times (dependents_of l.dependents on) other ≡ times
    (dependents_of l.fn.dependents on) other + (if l.item == other then times (take l.dependency-index l.dependencies)
    on
    else 0)
