use Rattle.std.proofs.Common.{length}
use Rattle.cat_machine.proofs.ScopeSteps.{Opening}
use Rattle.cat_machine.proofs.steps.calling.scope.Given as goal

abbrev pub invariant-loop-item : goal.invariant-loop-item
invariant-loop-item l = Opening l.fn.m l.m l.n l._item-index (length l._item-items)
