use Rattle.std.proofs.Common.{ap, arith, length}
use Rattle.cat_machine.proofs.LoopSteps.{collect_needs, collect_told, collected_machine}
use Rattle.cat_machine.proofs.steps.looping.collect.Goals as goal

pub push-requires : goal.push-requires
push-requires c none =
    let some =
    collect_needs c.args.code.now.tables c.args.place c.args.m.now c.in-Some.r c.pop.new.self c.in-Some.ensures
    c.requires.going in
    absurd (omega (arith, some, ap length none))

pub returns-clause-told : goal.returns-clause-told
returns-clause-told c =
    collect_told c.args.code.now.tables c.args.place c.args.m.now c.in-Some.r c.pop.new.self c.push.new.self
    c.in-Some.ensures c.in_ok-push.ensures.ok c.requires.going

pub returns-clause-machine : goal.returns-clause-machine
returns-clause-machine c =
    collected_machine c.args.code.now.tables c.args.m.now c.requires.machine c.in-Some.r c.pop.new.self c.push.new.self
    c.in-Some.ensures c.in_ok-push.ensures.ok
