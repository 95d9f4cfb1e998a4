use Rattle.std.proofs.Common.{◌≡◌, ◌++◌, drop}
use Rattle.cat_check_forms.specs.Tabled.{required_from}
use Rattle.cat_check.proofs.required.required.Given as goal

abbrev pub invariant-loop-number : goal.invariant-loop-number
invariant-loop-number l = l.numbers ++ required_from l.number (drop l.number l.items) ≡ required_from 0 l.items
