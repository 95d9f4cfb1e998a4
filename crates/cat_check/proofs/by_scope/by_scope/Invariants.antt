use Rattle.std.proofs.Common.{◌≡◌, ◌++◌}
use Rattle.std.specs.Vec.Iter.{into_iter_items}
use Rattle.cat_check.specs.inside.ByScope.{AreByScope}
use Rattle.cat_check.proofs.by_scope.by_scope.Given as goal

-- the items that were passed so far, and those that are left
abbrev pub invariant-loop-item : goal.invariant-loop-item
invariant-loop-item l = AreByScope l.decls l.yielded l.lists.items
    × (l.yielded ++ into_iter_items l.item-iterator ≡ into_iter_items l.initial.item-iterator)
