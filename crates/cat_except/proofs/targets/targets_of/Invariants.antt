use Rattle.std.proofs.Common.{◌≡◌, ◌++◌, drop}
use Rattle.cat_scope.specs.Names.{scope_items}
use Rattle.cat_scope.specs.Forests.{targets_of}
use Rattle.cat_except.proofs.targets.targets_of.Given as goal

abbrev pub invariant-loop-item : goal.invariant-loop-item
invariant-loop-item l =
    l.targets ++ targets_of l.decls l.scope (scope_items l.decls l.scope) (drop l.item-index l.order)
    ≡ targets_of l.decls l.scope (scope_items l.decls l.scope) l.order
