use Rattle.std.proofs.Common.{◌≡◌, drop}
use Rattle.cat_scope.specs.Fitting.{anything_is_last}
use Rattle.cat_check_forms.proofs.complete.anything_is_last.Given as goal

abbrev pub invariant-loop-number : goal.invariant-loop-number
invariant-loop-number l = anything_is_last (drop l.number l.arms) ≡ anything_is_last l.arms
