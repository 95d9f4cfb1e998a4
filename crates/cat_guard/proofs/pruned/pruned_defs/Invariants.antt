use Rattle.std.proofs.Common.{◌++◌, drop}
use Rattle.cat_guard.specs.Judged.{answers_in}
use Rattle.cat_guard.specs.inside.Pruned.{DefsStandFor}
use Rattle.cat_guard.proofs.pruned.pruned_defs.Given as goal

-- what is left and what follows stand for all
abbrev pub invariant-loop-number : goal.invariant-loop-number
invariant-loop-number l =
    DefsStandFor l.target (answers_in l.atoms l.region) l.numbers (l.left ++ drop l.number-index l.numbers)
