use Rattle.std.proofs.Common.{List, ap, ◌∙◌}
use Rattle.cat_verify_shapes.specs.declared.shape.PendingShape.{PendingShape}
use Rattle.cat_verify_shapes.specs.inside.Taking.{own_pending}
use Rattle.cat_verify_shapes.proofs.CountLemmas.{fewer_so, fewer_not}
use Rattle.cat_verify_shapes.proofs.CalledLemmas.{passed_as}
use Rattle.cat_verify_shapes.proofs.CallSteps.{enter_outside, enter_nothing, enter_unready, enter_so}
use Rattle.cat_verify_shapes.proofs.calling.enter.Goals as goal

pub returns-then-own_pending-lt1 : goal.returns-then-own_pending-lt1
returns-then-own_pending-lt1 c =
    let tables = c.args.tables.now in
    let forms = c.args.forms.now in
    let s = c.args.shape in
    enter_outside tables forms c.args.place s
    (fewer_so 1 c.own_pending.result (own_pending s) c.own_pending.ensures c.if-own_pending-lt1.true)

pub returns-in_default : goal.returns-in_default
returns-in_default c =
    let tables = c.args.tables.now in
    let forms = c.args.forms.now in
    let s = c.args.shape in
    enter_nothing tables forms c.args.place s
    (fewer_not 1 c.own_pending.result (own_pending s) c.own_pending.ensures c.if-own_pending-lt1.false)
    c.in_default.ensures.0

pub returns-then-not-is_ready : goal.returns-then-not-is_ready
returns-then-not-is_ready c =
    let tables = c.args.tables.now in
    let forms = c.args.forms.now in
    let s = c.args.shape in
    enter_unready tables forms c.args.place s (record s { pending = c.pop.new.self }) c.in-Some.frame
    (fewer_not 1 c.own_pending.result (own_pending s) c.own_pending.ensures c.if-own_pending-lt1.false)
    (ap (λ (ps : List PendingShape). record s { pending = ps }) c.in-Some.ensures)
    (passed_as c.get.result.now tables.decls c.in-Some.frame c.is_ready.result c.get.ensures c.is_ready.ensures
    ∙ c.if-not-is_ready.true)

pub returns : goal.returns
returns c =
    let tables = c.args.tables.now in
    let forms = c.args.forms.now in
    let s = c.args.shape in
    enter_so tables forms c.args.place s (record s { pending = c.pop.new.self }) c.in-Some.frame
    c.in_ok-outputs.outputs c.in_ok-push.field-0
    (fewer_not 1 c.own_pending.result (own_pending s) c.own_pending.ensures c.if-own_pending-lt1.false)
    (ap (λ (ps : List PendingShape). record s { pending = ps }) c.in-Some.ensures)
    (passed_as c.get.result.now tables.decls c.in-Some.frame c.is_ready.result c.get.ensures c.is_ready.ensures
    ∙ c.if-not-is_ready.false)
    c.in_ok-outputs.ensures c.in_ok-push.ensures
