use Rattle.std.proofs.Common.{◌≡◌, ◌<◌, ℕ, List, false, get_or, length}
use Rattle.std.specs.Prelude.{not, count_by}
use Rattle.cat_order.specs.Order.{is_listed}
use Rattle.cat_order.proofs.Trails.{IsTrail}
use Rattle.cat_order.proofs.cycle.item_on_cycle.Given as goal

-- the items passed lead to this one
abbrev pub invariant-loop-passed : goal.invariant-loop-passed
invariant-loop-passed l = record {
  one_each : length l.passed.items ≡ length l.deps;
  unmet : 0 < get_or l.unmet l.item 0;
  trail : (trail : List ℕ)
      × (IsTrail l.deps trail l.item × ((item : ℕ) → get_or l.passed.items item false ≡ is_listed trail item));
}

abbrev pub decreases-loop-passed : goal.decreases-loop-passed
decreases-loop-passed l = count_by not l.passed.items
