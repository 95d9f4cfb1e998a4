use Rattle.std.proofs.Common.{◌≡◌, ℕ, take, length}
use Rattle.cat_order.specs.Order.{times, dependencies_of}
use Rattle.cat_order.specs.inside.Steps.{dependents_of}
use Rattle.cat_order.proofs.dependents.dependents_of_each.Given as goal

-- what the items walked so far depend on is turned round
abbrev pub invariant-loop-item : goal.invariant-loop-item
invariant-loop-item l = record {
  one_each : length l.dependents.items ≡ length l.deps;
  turned : (on : ℕ) (other : ℕ) → times (dependents_of l.dependents.items on) other ≡ times
      (dependencies_of (take l.item l.deps) other) on;
}
