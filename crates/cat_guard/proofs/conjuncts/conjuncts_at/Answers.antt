use Rattle.std.proofs.Common.{◌≡◌, Some, slice_get, subst, sym, rules}
use Rattle.cat_guard.specs.GuardFormulas.{formula_of}
use Rattle.cat_guard.specs.Conjuncts.{joined, AreAmong}
use Rattle.cat_guard.proofs.ConjunctLaws.{at_def, none_among}
use Rattle.cat_guard.proofs.conjuncts.conjuncts_at.Goals as goal

pub returns-in-Some : goal.returns-in-Some
returns-in-Some c defs def are is =
    let there : slice_get c.args.conjuncts.now c.args.number ≡ Some c.in-Some.joined.now = search rules in
    subst (AreAmong (joined (formula_of def.guard))) (sym c.as_slice.ensures)
    (at_def defs c.args.conjuncts.now c.args.number def c.in-Some.joined.now are is there)

pub returns-in-None : goal.returns-in-None
returns-in-None c defs def are is = none_among (joined (formula_of def.guard))
