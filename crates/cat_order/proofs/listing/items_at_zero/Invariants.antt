use Rattle.std.proofs.Common.{◌≡◌, ◌==◌, ◌&&◌, ℕ, nat_lt, get_or}
use Rattle.std.specs.Ordering.{nat_cmp}
use Rattle.std.specs.BTreeSet.{contains}
use Rattle.cat_order.proofs.listing.items_at_zero.Given as goal

-- the items at 0 of those walked so far
abbrev pub invariant-loop-item : goal.invariant-loop-item
invariant-loop-item l =
    (item : ℕ) → contains nat_cmp l.ready item ≡ (nat_lt item l.item && (get_or l.unmet item 0 == 0))
