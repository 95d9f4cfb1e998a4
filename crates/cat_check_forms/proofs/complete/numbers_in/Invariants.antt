use Rattle.std.proofs.Common.{◌≡◌, ◌++◌, drop}
use Rattle.cat_scope.specs.Fitting.{numbers_in}
use Rattle.cat_check_forms.proofs.complete.numbers_in.Given as goal

abbrev pub invariant-loop-value : goal.invariant-loop-value
invariant-loop-value l = l.numbers ++ numbers_in (drop l.value-index l.values) ≡ numbers_in l.values
