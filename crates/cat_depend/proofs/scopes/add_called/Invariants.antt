use Rattle.std.proofs.Common.{◌≡◌, ◌++◌, drop}
use Rattle.cat_scope.specs.Orders.{called_by_items}
use Rattle.cat_depend.proofs.scopes.add_called.Given as goal

abbrev pub invariant-loop-item : goal.invariant-loop-item
invariant-loop-item l =
    l.calls ++ called_by_items (drop l.item-index l.items) ≡ l.fn.calls ++ called_by_items l.items
