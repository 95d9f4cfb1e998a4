use Rattle.cat_machine.proofs.MoveSteps.{unbind_machine, unbind_told}
use Rattle.cat_machine.proofs.steps.moving.unbind.Goals as goal

pub returns-clause-told : goal.returns-clause-told
returns-clause-told c =
    unbind_told c.args.code.now.tables c.args.place c.args.m.now c.args.n c.shorten.new.self c.shorten.ensures

pub returns-clause-machine : goal.returns-clause-machine
returns-clause-machine c =
    unbind_machine c.args.code.now.tables c.args.m.now c.args.n c.shorten.new.self c.requires.machine c.shorten.ensures
