use Rattle.std.proofs.Common.{◌<◌, ◌∙◌, ℕ, List, length, sym, ap, subst}
use Rattle.cat_pos.specs.declared.limits.TheConstants.{ENTRIES_BOUND}
use Rattle.cat_order.specs.Order.{AreItems, IsOrder}
use Rattle.cat_scope.specs.declared.defs.Body.{Body}
use Rattle.cat_depend.specs.Causes.{HasCallCause}
use Rattle.cat_depend.specs.Listed.{listed_calls}
use Rattle.cat_check.proofs.Scoped.{few, listed, scopes_are, caller_there, there_is_a_call, call_is_cycle}
use Rattle.cat_check.proofs.scope_order.scopes_in_order.Goals as goal

pub scope_order-requires-clause-few : goal.scope_order-requires-clause-few
scope_order-requires-clause-few c = subst (λ (bs : List Body). length bs < ENTRIES_BOUND) (sym c.as_slice.ensures)
    (few c.args.decls.now c.declarations_are_sound.ensures c.requires.0 c.args.bodies.now c.requires.2)

pub scope_order-requires-clause-scopes : goal.scope_order-requires-clause-scopes
scope_order-requires-clause-scopes c =
    subst (λ (bs : List Body). AreItems (listed_calls bs)) (sym c.as_slice.ensures)
    (scopes_are c.args.decls.now c.declarations_are_sound.ensures c.requires.0 c.args.bodies.now c.requires.2)

pub call_position-requires-clause-caller : goal.call_position-requires-clause-caller
call_position-requires-clause-caller c =
    let cause = subst (HasCallCause (listed_calls c.args.bodies.now)) c.in-Err-Cycle.field-0-is
    (subst (λ (bs : List Body). HasCallCause (listed_calls bs) c.in-Err-Cycle.field-0) c.as_slice.ensures
    c.in-Err-Cycle.ensures.cause) in
    caller_there c.args.decls.now c.declarations_are_sound.ensures c.requires.0 c.args.bodies.now c.requires.2
    c.in-Err-Cycle.caller cause.0

pub call_position-requires-clause-call : goal.call_position-requires-clause-call
call_position-requires-clause-call c =
    let cause = subst (HasCallCause (listed_calls c.args.bodies.now)) c.in-Err-Cycle.field-0-is
    (subst (λ (bs : List Body). HasCallCause (listed_calls bs) c.in-Err-Cycle.field-0) c.as_slice.ensures
    c.in-Err-Cycle.ensures.cause) in (
      c.requires.0,
      c.requires.1,
      there_is_a_call c.args.decls.now c.declarations_are_sound.ensures c.requires.0 c.args.bodies.now c.requires.2
          c.in-Err-Cycle.caller c.in-Err-Cycle.called cause.1,
    )

pub returns-in-Ok-clause-order : goal.returns-in-Ok-clause-order
returns-in-Ok-clause-order c =
    let deps = ap listed_calls c.as_slice.ensures
    ∙ listed c.args.decls.now c.declarations_are_sound.ensures c.requires.0 c.args.bodies.now c.requires.2 in
    subst (λ (ds : List (List ℕ)). IsOrder ds c.in-Ok.order) deps c.in-Ok.ensures.order

pub returns-in_ok-pos-in-Err-Cycle-clause-cause : goal.returns-in_ok-pos-in-Err-Cycle-clause-cause
returns-in_ok-pos-in-Err-Cycle-clause-cause c = λ tree is meant.
    let cause = subst (HasCallCause (listed_calls c.args.bodies.now)) c.in-Err-Cycle.field-0-is
    (subst (λ (bs : List Body). HasCallCause (listed_calls bs) c.in-Err-Cycle.field-0) c.as_slice.ensures
    c.in-Err-Cycle.ensures.cause) in
    call_is_cycle c.args.decls.now c.declarations_are_sound.ensures tree c.args.bodies.now meant
    c.in-Err-Cycle.caller c.in-Err-Cycle.called cause.1 c.in_ok-pos-in-Err-Cycle.pos
    (c.in_ok-pos-in-Err-Cycle.ensures tree is)
