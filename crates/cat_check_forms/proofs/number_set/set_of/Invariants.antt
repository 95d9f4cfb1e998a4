use Rattle.std.proofs.Common.{◌≡◌, take}
use Rattle.cat_scope.specs.Names.{all_differ}
use Rattle.cat_check_forms.proofs.AllThere.{Alike}
use Rattle.cat_check_forms.proofs.number_set.set_of.Given as goal

abbrev pub invariant-loop-number : goal.invariant-loop-number
invariant-loop-number l = Alike l.set (take l.number-index l.numbers)
    × (l.differ ≡ all_differ (take l.number-index l.numbers))
