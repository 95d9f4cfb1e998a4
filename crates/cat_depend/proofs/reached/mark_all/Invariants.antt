use Rattle.std.proofs.Common.{◌≡◌, drop}
use Rattle.cat_depend.specs.inside.Marks.{marked}
use Rattle.cat_depend.proofs.reached.mark_all.Given as goal

abbrev pub invariant-loop-number : goal.invariant-loop-number
invariant-loop-number l = marked l.marks (drop l.number-index l.numbers) ≡ marked l.fn.marks l.numbers
