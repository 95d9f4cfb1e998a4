use Rattle.std.proofs.Common.{◌≡◌, ◌++◌}
use Rattle.std.specs.Vec.Iter.{into_iter_items}
use Rattle.cat_check.proofs.Ordering.{AreSoFar}
use Rattle.cat_check.proofs.items.items_in_order.Given as goal

abbrev pub invariant-loop-body : goal.invariant-loop-body
invariant-loop-body l = AreSoFar l.decls.scopes l.made l.yielded
    × (l.yielded ++ into_iter_items l.body-iterator ≡ into_iter_items l.initial.body-iterator)
