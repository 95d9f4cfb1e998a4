use Rattle.std.proofs.Common.{List}
use Rattle.cat_value.specs.declared.value.Value.{Value}
use Rattle.cat_value.specs.declared.value.Value.TheViews as value
use Rattle.cat_code.specs.States.{State, on, push}
use Rattle.cat_pool.specs.Nodes.{structured}
use Rattle.cat_machine.proofs.CallSteps.{all_needed}
use Rattle.cat_machine.proofs.Growth.{one_more}
use Rattle.cat_machine.proofs.MakingSteps.{pack_machine, pack_told, parts_below}
use Rattle.cat_machine.proofs.Pushing.{none_more}
use Rattle.cat_machine.proofs.steps.making.pack.Goals as goal

pub last-requires : goal.last-requires
last-requires c =
    all_needed c.args.code.now.tables c.args.place c.args.n c.args.m.now
    (λ (vs : List Value) (s : State). on (push (value.Structure vs) s)) c.requires.going

pub put_structure-requires : goal.put_structure-requires
put_structure-requires c =
    parts_below c.args.code.now.tables c.args.n c.args.m.now c.last.result.now c.requires.machine c.last.ensures

pub forget-requires : goal.forget-requires
forget-requires c =
    all_needed c.args.code.now.tables c.args.place c.args.n c.args.m.now
    (λ (vs : List Value) (s : State). on (push (value.Structure vs) s)) c.requires.going

pub returns-clause-told : goal.returns-clause-told
returns-clause-told c =
    pack_told c.args.code.now.tables c.args.place c.args.n c.in_ok-r.r c.args.m.now c.last.result.now c.forget.new.self
    c.push.new.self c.put_structure.new.self c.requires.machine
    (all_needed c.args.code.now.tables c.args.place c.args.n c.args.m.now
    (λ (vs : List Value) (s : State). on (push (value.Structure vs) s)) c.requires.going)
    c.last.ensures c.forget.ensures c.in_ok-r.ensures.place c.in_ok-push.ensures.ok c.in_ok-r.ensures.ok

pub returns-clause-machine : goal.returns-clause-machine
returns-clause-machine c =
    pack_machine c.args.code.now.tables c.args.place c.args.n c.in_ok-r.r c.args.m.now c.last.result.now
    c.forget.new.self c.push.new.self c.put_structure.new.self c.requires.machine
    (all_needed c.args.code.now.tables c.args.place c.args.n c.args.m.now
    (λ (vs : List Value) (s : State). on (push (value.Structure vs) s)) c.requires.going)
    c.last.ensures c.forget.ensures c.in_ok-r.ensures.place c.in_ok-push.ensures.ok c.in_ok-r.ensures.ok

pub returns-clause-pool : goal.returns-clause-pool
returns-clause-pool c =
    one_more c.args.m.now.pool c.put_structure.new.self (structured c.args.m.now.pool c.last.result.now)
    c.in_ok-r.ensures.ok

pub returns-in_err-r-clause-pool : goal.returns-in_err-r-clause-pool
returns-in_err-r-clause-pool c =
    none_more c.args.m.now.pool c.put_structure.new.self c.in_err-r.ensures.err

pub returns-in_err-push-clause-pool : goal.returns-in_err-push-clause-pool
returns-in_err-push-clause-pool c =
    one_more c.args.m.now.pool c.put_structure.new.self (structured c.args.m.now.pool c.last.result.now)
    c.in_ok-r.ensures.ok
