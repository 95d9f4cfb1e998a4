use Rattle.std.proofs.Common.{length}
use Rattle.cat_machine.proofs.Holding.{below_at, with_operand}
use Rattle.cat_machine.proofs.MoveSteps.{constant_needs, constant_told}
use Rattle.cat_machine.proofs.steps.moving.constant.Goals as goal

pub at-r-requires : goal.at-r-requires
at-r-requires c =
    constant_needs c.args.code.now.tables c.args.place c.args.m.now c.args.k c.requires.machine c.requires.going

pub returns-clause-told : goal.returns-clause-told
returns-clause-told c =
    constant_told c.args.code.now.tables c.args.place c.args.m.now c.args.k c.at-r.result.now c.push.new.self
    c.requires.machine c.at-r.ensures
    c.in_ok-push.ensures.ok

pub returns-clause-machine : goal.returns-clause-machine
returns-clause-machine c =
    with_operand c.args.code.now.tables c.args.m.now c.requires.machine c.at-r.result.now c.push.new.self
    (below_at (length c.args.m.now.pool) c.args.m.now.constants c.args.k c.at-r.result.now
    c.requires.machine.constants_below c.at-r.ensures)
    c.in_ok-push.ensures.ok
