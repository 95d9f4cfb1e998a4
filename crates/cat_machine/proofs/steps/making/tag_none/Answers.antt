use Rattle.std.proofs.Common.{None}
use Rattle.cat_value.specs.declared.value.Value.TheViews as value
use Rattle.cat_code.specs.Machine.{act}
use Rattle.cat_code.specs.declared.instr.Instr.TheVariants as instr
use Rattle.cat_pool.specs.Nodes.{lone}
use Rattle.cat_machine.specs.States.{state_at}
use Rattle.cat_machine.proofs.Growth.{one_more}
use Rattle.cat_machine.proofs.MakingSteps.{tag_none_has, tag_none_leads}
use Rattle.cat_machine.proofs.Pushing.{node_machine, node_told, none_more}
use Rattle.cat_machine.proofs.steps.making.tag_none.Goals as goal

pub at-requires : goal.at-requires
at-requires c =
    tag_none_has c.args.code.now.tables c.args.place c.args.c c.args.m.now c.requires.going

pub returns-clause-told : goal.returns-clause-told
returns-clause-told c =
    node_told c.args.code.now.tables c.args.place c.in_ok-r.r c.args.m.now c.requires.machine c.push.new.self
    c.in_ok-push.ensures.ok (lone (value.Case c.at.result.now.case None)) c.put.new.self
    c.in_ok-r.ensures.ok c.in_ok-r.ensures.place
    (act c.args.code.now.tables (instr.TagNone c.args.c) (state_at c.args.code.now.tables c.args.place c.args.m.now))
    (tag_none_leads c.args.code.now.tables c.args.place c.args.c c.args.m.now c.at.result.now c.at.ensures)

pub returns-clause-machine : goal.returns-clause-machine
returns-clause-machine c =
    node_machine c.args.code.now.tables c.args.place c.in_ok-r.r c.args.m.now c.requires.machine c.push.new.self
    c.in_ok-push.ensures.ok (lone (value.Case c.at.result.now.case None)) c.put.new.self
    c.in_ok-r.ensures.ok c.in_ok-r.ensures.place

pub returns-clause-pool : goal.returns-clause-pool
returns-clause-pool c =
    one_more c.args.m.now.pool c.put.new.self (lone (value.Case c.at.result.now.case None)) c.in_ok-r.ensures.ok

pub returns-in_err-r-clause-pool : goal.returns-in_err-r-clause-pool
returns-in_err-r-clause-pool c =
    none_more c.args.m.now.pool c.put.new.self c.in_err-r.ensures.err

pub returns-in_err-push-clause-pool : goal.returns-in_err-push-clause-pool
returns-in_err-push-clause-pool c =
    one_more c.args.m.now.pool c.put.new.self (lone (value.Case c.at.result.now.case None)) c.in_ok-r.ensures.ok
