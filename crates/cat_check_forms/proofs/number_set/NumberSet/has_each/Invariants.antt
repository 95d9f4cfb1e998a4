use Rattle.std.proofs.Common.{◌≡◌, drop}
use Rattle.std.specs.List.{list_all}
use Rattle.cat_scope.specs.Names.{is_in}
use Rattle.cat_check_forms.proofs.number_set.NumberSet.has_each.Given as goal

abbrev pub invariant-loop-number : goal.invariant-loop-number
invariant-loop-number l =
    list_all (λ k. is_in k l.self) (drop l.number-index l.numbers) ≡ list_all (λ k. is_in k l.self) l.numbers
