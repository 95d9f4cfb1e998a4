use Rattle.std.proofs.Common.{◌≡◌, ◌++◌, drop}
use Rattle.cat_sound.specs.Roots.{root_numbers}
use Rattle.cat_calc.proofs.terms.roots.Given as goal

abbrev pub invariant-loop-number : goal.invariant-loop-number
invariant-loop-number l =
    l.roots ++ root_numbers l.defs l.number (drop l.number l.forest.groups)
    ≡ root_numbers l.defs 0 l.forest.groups
