use Rattle.std.proofs.Common.{◌≡◌, ◌<◌, ℕ, get_or}
use Rattle.cat_order.proofs.order.Given as goal

-- the items passed so far miss nothing
abbrev pub invariant-loop-item : goal.invariant-loop-item
invariant-loop-item l = (item : ℕ) → item < l.item → get_or l.unmet.items item 0 ≡ 0
