use Rattle.std.proofs.Common.{Some, length}
use Rattle.cat_value.specs.declared.value.Value.TheViews as value
use Rattle.cat_pool.specs.Nodes.{at, lone, values}
use Rattle.cat_machine.proofs.Growth.{one_more}
use Rattle.cat_machine.proofs.Holding.{below_split}
use Rattle.cat_machine.proofs.MakingSteps.{tag_has, tag_machine, tag_told}
use Rattle.cat_machine.proofs.Pushing.{none_more, stands_at}
use Rattle.cat_machine.proofs.steps.making.tag.Goals as goal

pub at-requires : goal.at-requires
at-requires c =
    tag_has c.args.code.now.tables c.args.place c.args.m.now c.in-Some.content c.pop.new.self c.in-Some.ensures
    (at (values c.args.m.now.pool) c.in-Some.content)
    (stands_at c.args.m.now.pool c.in-Some.content
    (below_split (length c.args.m.now.pool) c.args.m.now.operands c.in-Some.content c.pop.new.self c.in-Some.ensures
    c.requires.machine.operands).0) c.args.c c.requires.going

pub put-requires : goal.put-requires
put-requires c =
    (below_split (length c.args.m.now.pool) c.args.m.now.operands c.in-Some.content c.pop.new.self c.in-Some.ensures
    c.requires.machine.operands).0

pub returns-clause-told : goal.returns-clause-told
returns-clause-told c =
    tag_told c.args.code.now.tables c.args.place c.args.m.now c.in-Some.content c.pop.new.self c.in-Some.ensures
    (at (values c.args.m.now.pool) c.in-Some.content)
    (stands_at c.args.m.now.pool c.in-Some.content
    (below_split (length c.args.m.now.pool) c.args.m.now.operands c.in-Some.content c.pop.new.self c.in-Some.ensures
    c.requires.machine.operands).0)
    c.requires.machine c.in_ok-r.r c.put.new.self c.in_ok-r.ensures.place c.push.new.self c.in_ok-push.ensures.ok
    c.args.c c.at.result.now c.at.ensures c.in_ok-r.ensures.ok

pub returns-clause-machine : goal.returns-clause-machine
returns-clause-machine c =
    tag_machine c.args.code.now.tables c.args.place c.args.m.now c.in-Some.content c.pop.new.self c.in-Some.ensures
    (at (values c.args.m.now.pool) c.in-Some.content)
    (stands_at c.args.m.now.pool c.in-Some.content
    (below_split (length c.args.m.now.pool) c.args.m.now.operands c.in-Some.content c.pop.new.self c.in-Some.ensures
    c.requires.machine.operands).0)
    c.requires.machine c.in_ok-r.r c.put.new.self c.in_ok-r.ensures.place c.push.new.self c.in_ok-push.ensures.ok
    c.args.c c.at.result.now c.at.ensures c.in_ok-r.ensures.ok

pub returns-clause-pool : goal.returns-clause-pool
returns-clause-pool c =
    one_more c.args.m.now.pool c.put.new.self
    (lone (value.Case c.at.result.now.case (Some (at (values c.args.m.now.pool) c.in-Some.content))))
    c.in_ok-r.ensures.ok

pub returns-in_err-r-clause-pool : goal.returns-in_err-r-clause-pool
returns-in_err-r-clause-pool c =
    none_more c.args.m.now.pool c.put.new.self c.in_err-r.ensures.err

pub returns-in_err-push-clause-pool : goal.returns-in_err-push-clause-pool
returns-in_err-push-clause-pool c =
    one_more c.args.m.now.pool c.put.new.self
    (lone (value.Case c.at.result.now.case (Some (at (values c.args.m.now.pool) c.in-Some.content))))
    c.in_ok-r.ensures.ok
