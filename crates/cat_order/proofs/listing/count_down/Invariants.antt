use Rattle.std.proofs.Common.{◌≡◌, ◌==◌, ◌+◌, ◌&&◌, ◌||◌, ℕ, get_or, take}
use Rattle.std.specs.Ordering.{nat_cmp}
use Rattle.std.specs.BTreeSet.{contains}
use Rattle.cat_order.specs.Order.{times, is_listed}
use Rattle.cat_order.proofs.listing.count_down.Given as goal

-- what the items walked so far did to the counts and to what is ready
abbrev pub invariant-loop-item : goal.invariant-loop-item
invariant-loop-item l = record {
  counts : (item : ℕ) → get_or l.unmet item 0 + times (take l.item-index l.items) item ≡ get_or l.fn.unmet item 0;
  ready : (item : ℕ) → contains nat_cmp l.ready item ≡ (contains nat_cmp l.fn.ready item
      || (is_listed (take l.item-index l.items) item && (get_or l.unmet item 0 == 0)));
}
