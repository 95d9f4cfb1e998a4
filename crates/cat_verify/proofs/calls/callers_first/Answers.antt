use Rattle.std.proofs.Common.{ℕ, List, ◌∙◌, subst, sym}
use Rattle.cat_order.specs.Cycle.{IsOnCycle}
use Rattle.cat_verify.proofs.CallLemmas.{callers_are_items}
use Rattle.cat_verify.proofs.RoundLemmas.{call_listed, round_call, in_order}
use Rattle.cat_verify.proofs.calls.callers_first.Goals as goal

pub order-requires-clause-items : goal.order-requires-clause-items
order-requires-clause-items c =
    rw c.deref.ensures.value (callers_are_items c.args.tables.now c.args.code.now c.args.marks.now
    c.in_ok-callers.callers.items c.requires c.in_ok-callers.ensures)

pub returns-in-Ok-clause-order : goal.returns-in-Ok-clause-order
returns-in-Ok-clause-order c =
    in_order c.args.tables.now c.args.code.now c.args.marks.now c.in_ok-callers.callers.items c.deref.result.now
    c.in_ok-callers.ensures c.deref.ensures.value c.in-Ok.order c.in-Ok.ensures.order

pub next_on_cycle-requires-clause-items : goal.next_on_cycle-requires-clause-items
next_on_cycle-requires-clause-items c =
    rw c.deref-in-Err-Cycle.ensures.value (callers_are_items c.args.tables.now c.args.code.now c.args.marks.now
    c.in_ok-callers.callers.items c.requires c.in_ok-callers.ensures)

pub next_on_cycle-requires-clause-on_cycle : goal.next_on_cycle-requires-clause-on_cycle
next_on_cycle-requires-clause-on_cycle c =
    subst (λ (deps : List (List ℕ)). IsOnCycle deps c.in-Err-Cycle.called)
    (c.deref.ensures.value ∙ sym c.deref-in-Err-Cycle.ensures.value)
    (rw c.in-Err-Cycle.field-0-is at c.in-Err-Cycle.ensures.cause).0

pub place_of-requires-clause-call : goal.place_of-requires-clause-call
place_of-requires-clause-call c =
    call_listed c.args.tables.now c.args.code.now c.args.marks.now c.in_ok-callers.callers.items
    c.deref-in-Err-Cycle.result.now c.in_ok-callers.ensures c.deref-in-Err-Cycle.ensures.value _
    c.in_ok-caller-in-Err-Cycle.caller c.in_ok-caller-in-Err-Cycle.ensures

pub returns-clause-cause : goal.returns-clause-cause
returns-clause-cause c =
    round_call c.args.tables.now c.args.code.now c.args.marks.now c.in_ok-callers.callers.items
    c.deref-in-Err-Cycle.result.now c.in_ok-callers.ensures c.deref-in-Err-Cycle.ensures.value c.place_of.result _
    c.in_ok-caller-in-Err-Cycle.caller c.place_of.ensures c.in_ok-caller-in-Err-Cycle.ensures
