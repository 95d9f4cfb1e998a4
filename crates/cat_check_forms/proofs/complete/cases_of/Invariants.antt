use Rattle.std.proofs.Common.{◌≡◌, ◌++◌, drop}
use Rattle.cat_scope.specs.Fitting.{cases_of}
use Rattle.cat_check_forms.proofs.complete.cases_of.Given as goal

abbrev pub invariant-loop-arm : goal.invariant-loop-arm
invariant-loop-arm l = l.cases ++ cases_of (drop l.arm-index l.arms) ≡ cases_of l.arms
