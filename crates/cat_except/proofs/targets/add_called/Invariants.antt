use Rattle.std.proofs.Common.{◌≡◌, ◌++◌, drop}
use Rattle.cat_scope.specs.Forests.{called_targets}
use Rattle.cat_except.proofs.targets.add_called.Given as goal

abbrev pub invariant-loop-number : goal.invariant-loop-number
invariant-loop-number l =
    l.targets ++ called_targets l.scope l.item l.number (drop l.number l.inner)
    ≡ l.initial.targets ++ called_targets l.scope l.item 0 l.inner
