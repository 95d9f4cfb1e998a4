use Rattle.std.proofs.Common.{sym, ◌∙◌}
use Rattle.cat_verify_shapes.proofs.ValueSteps.{slot_unfilled, slot_filled}
use Rattle.cat_verify_shapes.proofs.values.slot.Goals as goal

pub returns-then-not-is_so : goal.returns-then-not-is_so
returns-then-not-is_so c =
    let tables = c.args.tables.now in
    let forms = c.args.forms.now in
    let p = c.args.place in
    let s = c.args.shape in
    slot_unfilled tables forms p s c.args.slot (sym c.is_so.ensures ∙ c.if-not-is_so.true)

pub returns : goal.returns
returns c =
    let tables = c.args.tables.now in
    let forms = c.args.forms.now in
    let p = c.args.place in
    let s = c.args.shape in
    slot_filled tables forms p c.give.result s c.args.slot c.in_ok-form.form
    (sym c.is_so.ensures ∙ c.if-not-is_so.false) c.in_ok-form.ensures c.give.ensures
