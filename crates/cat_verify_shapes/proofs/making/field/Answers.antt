use Rattle.std.proofs.Common.{Some, ap, ◌∙◌}
use Rattle.cat_verify_shapes.proofs.MakingSteps.{field_nothing, field_other, field_gives}
use Rattle.cat_verify_shapes.proofs.OperandLemmas.{no_fields}
use Rattle.cat_verify_shapes.proofs.StepLemmas.{popped_as}
use Rattle.cat_verify_shapes.proofs.making.field.Goals as goal

pub returns-in_default : goal.returns-in_default
returns-in_default c =
    let tables = c.args.tables.now in
    let forms = c.args.forms.now in
    let p = c.args.place in
    let s = c.args.shape in
    field_nothing tables forms p s c.args.field c.in_default.ensures.0

pub returns-in_default-2 : goal.returns-in_default-2
returns-in_default-2 c =
    let tables = c.args.tables.now in
    let forms = c.args.forms.now in
    let p = c.args.place in
    let s = c.args.shape in
    field_other tables forms p s (record s { operands = c.pop.new.self }) c.args.field c.in-Some.whole
    c.in_ok-row.field-0 (popped_as s c.in-Some.whole c.pop.new.self c.in-Some.ensures) c.in_ok-row.ensures
    (no_fields c.in_ok-row.field-0 c.in_default-2.not-Fields)

pub returns : goal.returns
returns c =
    let tables = c.args.tables.now in
    let forms = c.args.forms.now in
    let p = c.args.place in
    let s = c.args.shape in
    field_gives tables forms p c.give.result s (record s { operands = c.pop.new.self }) c.args.field
    c.in-Some.whole c.in-Fields.row c.in_ok-form.form (popped_as s c.in-Some.whole c.pop.new.self
    c.in-Some.ensures) (c.in_ok-row.ensures ∙ ap Some c.in-Fields.is) c.in_ok-form.ensures c.give.ensures
