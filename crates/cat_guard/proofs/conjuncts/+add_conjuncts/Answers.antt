use Rattle.cat_guard.specs.GuardFormulas.{formula_of}
use Rattle.cat_guard.specs.Conjuncts.{joined}
use Rattle.cat_guard.proofs.ConjunctLaws.{added_Atom, added_Not, added_Both, nothing_added, on_ok}
use Rattle.cat_guard.proofs.conjuncts.+add_conjuncts.Goals as goal

pub returns-in-Atom : goal.returns-in-Atom
returns-in-Atom t c =
    on_ok c.push.result c.push.ensures.ok
    (added_Atom c.args.guard.now c.args.conjuncts.now c.in-Atom.atom c.push.new.self c.in-Atom.is)

pub returns-in-Not : goal.returns-in-Not
returns-in-Not t c =
    on_ok c.add_negated.result c.add_negated.ensures
    (added_Not c.args.guard.now c.args.conjuncts.now c.in-Not.of c.get.result.now c.add_negated.new.conjuncts
    c.in-Not.is c.get.ensures)

pub returns-in_ok-add_conjuncts-in-Both : goal.returns-in_ok-add_conjuncts-in-Both
returns-in_ok-add_conjuncts-in-Both t c =
    on_ok c.add_conjuncts-in-Both.result c.add_conjuncts-in-Both.ensures
    (added_Both c.args.guard.now c.args.conjuncts.now c.in-Both.left c.in-Both.right c.get-in-Both.result.now
    c.get-in-Both-2.result.now c.add_conjuncts.new.conjuncts c.add_conjuncts-in-Both.new.conjuncts c.in-Both.is
    c.get-in-Both.ensures c.get-in-Both-2.ensures c.in_ok-add_conjuncts-in-Both.ensures)

pub returns-in_default : goal.returns-in_default
returns-in_default t c = nothing_added (joined (formula_of c.args.guard.now)) c.args.conjuncts.now
