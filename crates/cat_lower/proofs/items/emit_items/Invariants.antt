use Rattle.std.proofs.Common.{drop}
use Rattle.cat_lower.specs.declared.growing.Growing.{Growing}
use Rattle.cat_lower.specs.Grown.{Grown}
use Rattle.cat_lower.specs.Scopes.{items_code}
use Rattle.cat_lower.specs.Told.{scope_standing}
use Rattle.cat_lower.proofs.items.emit_items.Given as goal

abbrev pub invariant-loop-item : goal.invariant-loop-item
invariant-loop-item l =
    (new : Growing) → Grown l.growing new
    (items_code (scope_standing l.here l.scope) (drop l.item-index l.scope.terms.now.order))
    → Grown l.fn.growing new (items_code (scope_standing l.here l.scope) l.scope.terms.now.order)
