use Rattle.std.proofs.Common.{true, false, sym, Some, None, ◌∙◌}
use Rattle.cat_code.specs.Forms.{slot_form}
use Rattle.cat_verify_shapes.proofs.StepLemmas.{none_where_some, none_where_not, stands_as, takes_as}
use Rattle.cat_verify_shapes.proofs.ValueSteps.{store_in_function, store_nowhere, store_other, store_so}
use Rattle.cat_verify_shapes.proofs.values.store.Goals as goal

pub returns-then-is_some : goal.returns-then-is_some
returns-then-is_some c =
    let tables = c.args.tables.now in
    let forms = c.args.forms.now in
    let p = c.args.place in
    let s = c.args.shape in
    store_in_function tables forms p s c.args.slot
    (none_where_some s.owner.function (sym c.is_some.ensures ∙ c.if-is_some.true))

pub returns-in_default : goal.returns-in_default
returns-in_default c =
    let tables = c.args.tables.now in
    let forms = c.args.forms.now in
    let p = c.args.place in
    let s = c.args.shape in
    store_nowhere tables forms p s c.args.slot
    (none_where_not s.owner.function (sym c.is_some.ensures ∙ c.if-is_some.false))
    (stands_as tables forms c.in_ok-form.field-0 None (slot_form tables.decls s.owner.scope c.args.slot)
    c.in_ok-form.ensures c.in_default.is)

pub returns-then-not-pop_as : goal.returns-then-not-pop_as
returns-then-not-pop_as c =
    let tables = c.args.tables.now in
    let forms = c.args.forms.now in
    let p = c.args.place in
    let s = c.args.shape in
    store_other tables forms p s c.pop_as.new.shape c.args.slot c.in-Some.form
    (none_where_not s.owner.function (sym c.is_some.ensures ∙ c.if-is_some.false))
    (stands_as tables forms c.in_ok-form.field-0 (Some c.in-Some.form) (slot_form tables.decls s.owner.scope
    c.args.slot)
    c.in_ok-form.ensures c.in-Some.is)
    (takes_as s c.pop_as.new.shape c.in-Some.form c.pop_as.result false c.pop_as.ensures c.if-not-pop_as.true)

pub returns : goal.returns
returns c =
    let tables = c.args.tables.now in
    let forms = c.args.forms.now in
    let p = c.args.place in
    let s = c.args.shape in
    store_so tables forms p s c.pop_as.new.shape c.args.slot c.in-Some.form c.mark.new.flags
    (none_where_not s.owner.function (sym c.is_some.ensures ∙ c.if-is_some.false))
    (stands_as tables forms c.in_ok-form.field-0 (Some c.in-Some.form) (slot_form tables.decls s.owner.scope
    c.args.slot)
    c.in_ok-form.ensures c.in-Some.is)
    (takes_as s c.pop_as.new.shape c.in-Some.form c.pop_as.result true c.pop_as.ensures c.if-not-pop_as.false)
    c.mark.ensures
