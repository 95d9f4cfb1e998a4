use Rattle.std.proofs.Common.{List, None, Some, ap, false, true}
use Rattle.cat_code.specs.Forms.{slot_form}
use Rattle.cat_verify_shapes.specs.declared.shape.PendingShape.{PendingShape}
use Rattle.cat_verify_shapes.specs.inside.Taking.{own_pending}
use Rattle.cat_verify_shapes.proofs.StepLemmas.{stands_as, takes_as}
use Rattle.cat_verify_shapes.proofs.CountLemmas.{fewer_so, fewer_not}
use Rattle.cat_verify_shapes.proofs.CallSteps.{pass_outside, pass_nothing, pass_nowhere, pass_unlike, pass_so}
use Rattle.cat_verify_shapes.proofs.calling.pass.Goals as goal

pub returns-then-own_pending-lt1 : goal.returns-then-own_pending-lt1
returns-then-own_pending-lt1 c =
    let tables = c.args.tables.now in
    let forms = c.args.forms.now in
    let s = c.args.shape in
    pass_outside tables forms c.args.place s c.args.slot
    (fewer_so 1 c.own_pending.result (own_pending s) c.own_pending.ensures c.if-own_pending-lt1.true)

pub returns-in_default : goal.returns-in_default
returns-in_default c =
    let tables = c.args.tables.now in
    let forms = c.args.forms.now in
    let s = c.args.shape in
    pass_nothing tables forms c.args.place s c.args.slot
    (fewer_not 1 c.own_pending.result (own_pending s) c.own_pending.ensures c.if-own_pending-lt1.false)
    c.in_default.ensures.0

pub returns-in_default-2 : goal.returns-in_default-2
returns-in_default-2 c =
    let tables = c.args.tables.now in
    let forms = c.args.forms.now in
    let s = c.args.shape in
    pass_nowhere tables forms c.args.place s (record s { pending = c.pop.new.self }) c.args.slot c.in-Some.frame
    (fewer_not 1 c.own_pending.result (own_pending s) c.own_pending.ensures c.if-own_pending-lt1.false)
    (ap (λ (ps : List PendingShape). record s { pending = ps }) c.in-Some.ensures)
    (stands_as tables forms c.in_ok-form.field-0 None (slot_form tables.decls c.in-Some.frame.scope c.args.slot)
    c.in_ok-form.ensures c.in_default-2.is)

pub returns-then-not-pop_as : goal.returns-then-not-pop_as
returns-then-not-pop_as c =
    let tables = c.args.tables.now in
    let forms = c.args.forms.now in
    let s = c.args.shape in
    pass_unlike tables forms c.args.place s (record s { pending = c.pop.new.self }) c.pop_as.new.shape c.args.slot
    c.in-Some-2.form c.in-Some.frame
    (fewer_not 1 c.own_pending.result (own_pending s) c.own_pending.ensures c.if-own_pending-lt1.false)
    (ap (λ (ps : List PendingShape). record s { pending = ps }) c.in-Some.ensures)
    (stands_as tables forms c.in_ok-form.field-0 (Some c.in-Some-2.form)
    (slot_form tables.decls c.in-Some.frame.scope c.args.slot) c.in_ok-form.ensures c.in-Some-2.is)
    (takes_as (record s { pending = c.pop.new.self }) c.pop_as.new.shape c.in-Some-2.form c.pop_as.result false
    c.pop_as.ensures c.if-not-pop_as.true)

pub returns : goal.returns
returns c =
    let tables = c.args.tables.now in
    let forms = c.args.forms.now in
    let s = c.args.shape in
    pass_so tables forms c.args.place s (record s { pending = c.pop.new.self }) c.pop_as.new.shape c.args.slot
    c.in-Some-2.form c.in-Some.frame c.mark.new.flags c.push.new.self
    (fewer_not 1 c.own_pending.result (own_pending s) c.own_pending.ensures c.if-own_pending-lt1.false)
    (ap (λ (ps : List PendingShape). record s { pending = ps }) c.in-Some.ensures)
    (stands_as tables forms c.in_ok-form.field-0 (Some c.in-Some-2.form)
    (slot_form tables.decls c.in-Some.frame.scope c.args.slot) c.in_ok-form.ensures c.in-Some-2.is)
    (takes_as (record s { pending = c.pop.new.self }) c.pop_as.new.shape c.in-Some-2.form c.pop_as.result true
    c.pop_as.ensures c.if-not-pop_as.false)
    c.mark.ensures c.in_ok-push.ensures.ok
