use Rattle.std.proofs.Common.{rules}
use Rattle.cat_verify.proofs.CallLemmas.{call_place, call_later, no_call_left}
use Rattle.cat_verify.proofs.StepLemmas.{within_as}
use Rattle.cat_verify.proofs.calls.place_of.Goals as goal

pub call_number-call-requires-clause-within : goal.call_number-call-requires-clause-within
call_number-call-requires-clause-within c =
    within_as c.args.tables.now c.args.code.now _ c.loop-at.at _ c.requires.marked.good (search rules)
    c.loop-at-test.true

pub returns-then-is_call : goal.returns-then-is_call
returns-then-is_call c =
    call_place c.args.tables.now c.args.code.now c.args.marks.now c.loop-at.at c.args.caller c.args.called _
    c.call_number-call.result c.loop-at-test.true c.call_number-call.ensures c.if-is_call.ensures

pub loop-at-preserved : goal.loop-at-preserved
loop-at-preserved c =
    call_later c.args.tables.now c.args.code.now c.args.marks.now c.loop-at.at c.args.caller c.args.called _
    c.call_number-call.result c.loop-at-test.true c.call_number-call.ensures c.if-is_call.ensures c.loop-at.invariant

pub unreachable-requires : goal.unreachable-requires
unreachable-requires c =
    no_call_left c.args.tables.now c.args.code.now c.args.marks.now c.loop-at.at c.args.caller c.args.called
    c.loop-at-test.false c.loop-at.invariant
