use Rattle.std.proofs.Common.{◌≡◌, ◌++◌, drop}
use Rattle.cat_calc.specs.inside.Items.{inner_terms}
use Rattle.cat_calc.proofs.items.inner_terms.Given as goal

abbrev pub invariant-loop-number : goal.invariant-loop-number
invariant-loop-number l =
    l.terms ++ inner_terms l.defs l.item l.number (drop l.number l.inner) ≡ inner_terms l.defs l.item 0 l.inner
