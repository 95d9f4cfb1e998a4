use Rattle.cat_machine.proofs.MoveSteps.{bind_machine, bind_told}
use Rattle.cat_machine.proofs.steps.moving.bind.Goals as goal

pub returns-clause-told : goal.returns-clause-told
returns-clause-told c =
    bind_told c.args.code.now.tables c.args.place c.args.m.now c.in-Some.r c.pop.new.self c.push.new.self
    c.requires.machine.framed c.in-Some.ensures
    c.in_ok-push.ensures.ok

pub returns-clause-machine : goal.returns-clause-machine
returns-clause-machine c =
    bind_machine c.args.code.now.tables c.args.m.now c.in-Some.r c.pop.new.self c.push.new.self c.requires.machine
    c.in-Some.ensures
    c.in_ok-push.ensures.ok
