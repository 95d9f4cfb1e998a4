use Rattle.std.proofs.Common.{length}
use Rattle.std.specs.Ordering.{nat_cmp}
use Rattle.std.specs.BTreeSet.{contains}
use Rattle.cat_order.specs.inside.Steps.{left_out}
use Rattle.cat_order.proofs.Stages.{IsStage}
use Rattle.cat_order.proofs.listing.list_items.Given as goal

abbrev pub invariant-loop-item : goal.invariant-loop-item
invariant-loop-item l = IsStage l.deps l.listed l.unmet.items (λ item. contains nat_cmp l.ready item)

abbrev pub decreases-loop-item : goal.decreases-loop-item
decreases-loop-item l = left_out l.listed (length l.deps)
