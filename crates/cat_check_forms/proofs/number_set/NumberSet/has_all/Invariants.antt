use Rattle.std.proofs.Common.{◌≡◌, true}
use Rattle.cat_scope.specs.Names.{are_all_in}
use Rattle.cat_check_forms.proofs.number_set.NumberSet.has_all.Given as goal

abbrev pub invariant-loop-number : goal.invariant-loop-number
invariant-loop-number l = are_all_in l.number l.self ≡ true
