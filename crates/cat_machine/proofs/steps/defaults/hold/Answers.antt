use Rattle.cat_machine.proofs.DefaultSteps.{hold_framed, hold_machine, hold_told}
use Rattle.cat_machine.proofs.Growth.{no_more}
use Rattle.cat_machine.proofs.steps.defaults.hold.Goals as goal

pub push-requires : goal.push-requires
push-requires c =
    hold_framed c.args.code.now.tables c.args.place c.args.d c.in-Some.value c.pop.new.self c.args.m.now
    c.in-Some.ensures c.requires.going

pub returns-clause-told : goal.returns-clause-told
returns-clause-told c =
    rw c.in_ok-push.ensures.ok
    (hold_told c.args.code.now.tables c.args.place c.args.d c.in-Some.value c.pop.new.self c.args.m.now
    c.in-Some.ensures c.requires.going)

pub returns-clause-machine : goal.returns-clause-machine
returns-clause-machine c =
    rw c.in_ok-push.ensures.ok
    (hold_machine c.args.code.now.tables c.args.place c.args.d c.in-Some.value c.pop.new.self c.args.m.now
    c.in-Some.ensures c.requires.machine c.requires.going)

pub returns-clause-pool : goal.returns-clause-pool
returns-clause-pool c =
    no_more c.args.m.now.pool

pub returns-in_err-push-clause-pool : goal.returns-in_err-push-clause-pool
returns-in_err-push-clause-pool c =
    no_more c.args.m.now.pool
