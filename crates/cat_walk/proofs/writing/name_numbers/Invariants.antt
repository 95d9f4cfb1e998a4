use Rattle.std.proofs.Common.{◌≡◌, ◌≤◌, ◌++◌, drop}
use Rattle.cat_walk.specs.inside.Writing.{numbers_from}
use Rattle.cat_walk.proofs.writing.name_numbers.Given as goal

abbrev pub invariant-loop-again : goal.invariant-loop-again
invariant-loop-again l = record {
  made : l.numbers ++ numbers_from l.next (drop l.again-index l.recurs) ≡ numbers_from 0 l.recurs;
  few : l.next ≤ l.again-index;
}
