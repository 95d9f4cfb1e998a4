use Rattle.std.proofs.Common.{◌≡◌, ◌++◌, map, drop}
use Rattle.cat_calc.specs.inside.Numbered.{numbered_at}
use Rattle.cat_calc.specs.inside.Terms.{definition_term}
use Rattle.cat_calc.proofs.terms.own_term.Given as goal

abbrev pub invariant-loop-number : goal.invariant-loop-number
invariant-loop-number l =
    l.terms ++ map definition_term (numbered_at l.defs (drop l.number-index l.numbers))
    ≡ map definition_term (numbered_at l.defs l.numbers)
