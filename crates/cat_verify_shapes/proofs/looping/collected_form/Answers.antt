use Rattle.std.proofs.Common.{None, Some, ap, ◌∙◌}
use Rattle.cat_code.specs.Told.{constant_form}
use Rattle.cat_verify_shapes.proofs.StepLemmas.{stands_as}
use Rattle.cat_verify_shapes.proofs.LoopCalls.{no_list}
use Rattle.cat_verify_shapes.proofs.LoopSteps.{collected_nothing, collected_other, collected_list}
use Rattle.cat_verify_shapes.proofs.looping.collected_form.Goals as goal

pub returns-in_default : goal.returns-in_default
returns-in_default c =
    let tables = c.args.tables.now in
    let forms = c.args.forms.now in
    collected_nothing tables forms c.args.constant
    (stands_as tables forms c.in_ok-whole.field-0 None (constant_form tables c.args.constant) c.in_ok-whole.ensures
    c.in_default.is)

pub returns-in_default-entry : goal.returns-in_default-entry
returns-in_default-entry c =
    let tables = c.args.tables.now in
    let forms = c.args.forms.now in
    collected_other tables forms c.args.constant c.in-Some.whole c.in_ok-entry.entry
    (stands_as tables forms c.in_ok-whole.field-0 (Some c.in-Some.whole) (constant_form tables c.args.constant)
    c.in_ok-whole.ensures c.in-Some.is)
    c.in_ok-entry.ensures (no_list c.in_ok-entry.entry c.in_default-entry.not-Many)

pub returns : goal.returns
returns c =
    let tables = c.args.tables.now in
    let forms = c.args.forms.now in
    collected_list tables forms c.args.constant c.in-Some.whole c.in-Many.element
    (stands_as tables forms c.in_ok-whole.field-0 (Some c.in-Some.whole) (constant_form tables c.args.constant)
    c.in_ok-whole.ensures c.in-Some.is)
    (c.in_ok-entry.ensures ∙ ap Some c.in-Many.is)
