use Rattle.cat_machine.proofs.DefaultSteps.{merge_framed, merge_machine, merge_told}
use Rattle.cat_machine.proofs.Growth.{no_more}
use Rattle.cat_machine.proofs.steps.defaults.merge.Goals as goal

pub join-requires : goal.join-requires
join-requires c =
    merge_framed c.args.code.now.tables c.args.place c.args.m.now c.requires.going

pub returns-clause-told : goal.returns-clause-told
returns-clause-told c =
    rw c.join.ensures
    (merge_told c.args.code.now.tables c.args.place c.args.m.now
    (merge_framed c.args.code.now.tables c.args.place c.args.m.now c.requires.going))

pub returns-clause-machine : goal.returns-clause-machine
returns-clause-machine c =
    rw c.join.ensures (merge_machine c.args.code.now.tables c.args.place c.args.m.now c.requires.machine)

pub returns-clause-pool : goal.returns-clause-pool
returns-clause-pool c =
    no_more c.args.m.now.pool
