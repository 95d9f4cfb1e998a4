use Rattle.cat_machine.proofs.MoveSteps.{store_machine, store_told}
use Rattle.cat_machine.proofs.steps.moving.store.Goals as goal

pub returns-clause-told : goal.returns-clause-told
returns-clause-told c =
    store_told c.args.code.now.tables c.args.place c.args.m.now c.args.i c.in-Some.r c.pop.new.self c.set.new.self
    c.in-Some.ensures c.set.ensures

pub returns-clause-machine : goal.returns-clause-machine
returns-clause-machine c =
    store_machine c.args.code.now.tables c.args.m.now c.args.i c.in-Some.r c.pop.new.self c.set.new.self
    c.requires.machine c.in-Some.ensures c.set.ensures
