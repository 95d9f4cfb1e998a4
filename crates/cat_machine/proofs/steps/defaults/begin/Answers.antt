use Rattle.cat_machine.proofs.DefaultSteps.{begin_machine, begin_told}
use Rattle.cat_machine.proofs.Growth.{no_more}
use Rattle.cat_machine.proofs.steps.defaults.begin.Goals as goal

pub returns-clause-told : goal.returns-clause-told
returns-clause-told c =
    rw c.in_ok-open.ensures.ok (begin_told c.args.code.now.tables c.args.place c.args.v c.args.m.now)

pub returns-clause-machine : goal.returns-clause-machine
returns-clause-machine c =
    rw c.in_ok-open.ensures.ok (begin_machine c.args.code.now.tables c.args.m.now c.requires.machine)

pub returns-clause-pool : goal.returns-clause-pool
returns-clause-pool c =
    no_more c.args.m.now.pool

pub returns-in_err-open-clause-pool : goal.returns-in_err-open-clause-pool
returns-in_err-open-clause-pool c =
    no_more c.args.m.now.pool
