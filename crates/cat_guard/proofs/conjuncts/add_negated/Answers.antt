use Rattle.cat_guard.specs.GuardFormulas.{formula_of}
use Rattle.cat_guard.specs.Conjuncts.{negated}
use Rattle.cat_guard.proofs.ConjunctLaws.{added_negated, nothing_added, on_ok}
use Rattle.cat_guard.proofs.conjuncts.add_negated.Goals as goal

pub returns-in-Atom : goal.returns-in-Atom
returns-in-Atom c =
    on_ok c.push.result c.push.ensures.ok
    (added_negated c.args.guard.now c.args.conjuncts.now c.in-Atom.atom c.push.new.self c.in-Atom.is)

pub returns-in_default : goal.returns-in_default
returns-in_default c = nothing_added (negated (formula_of c.args.guard.now)) c.args.conjuncts.now
