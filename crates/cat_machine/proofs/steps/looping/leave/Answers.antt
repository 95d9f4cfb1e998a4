use Rattle.cat_machine.proofs.LoopSteps.{leave_needs, leave_told, left_machine}
use Rattle.cat_machine.proofs.steps.looping.leave.Goals as goal

pub returns-clause-told : goal.returns-clause-told
returns-clause-told c =
    leave_told c.args.code.now.tables c.args.place c.args.m.now c.close.new.self
    (leave_needs c.args.code.now.tables c.args.place c.args.m.now c.requires.going) c.close.ensures

pub returns-clause-machine : goal.returns-clause-machine
returns-clause-machine c =
    left_machine c.args.code.now.tables c.args.m.now c.requires.machine c.close.new.self c.close.ensures
