use Rattle.std.proofs.Common.{◌∙◌, sym, ap, arith, rules, length}
use Rattle.serde_json.specs.Data.{array, object}
use Rattle.serde_json.specs.View.{members_view}
use Rattle.serde_json.proofs.Views.{view-Array, view-Object}
use Rattle.cat_answer.proofs.WriteEquations.{elements-written, members_data-next, members_data-end, members_data-past}
use Rattle.cat_answer.proofs.writing.+write.Goals as goal

pub elements_json-returns : goal.elements_json-returns
elements_json-returns t c =
    let same = ap length c.as_slice-element-items.ensures in
    view-Array c.loop-element.items ∙ ap array
    (elements-written c.args.decls.now c.loop-element.items.items c.args.elements.now c.args.ty.now
    c.loop-element.element-index c.loop-element.invariant (omega (arith, same, c.loop-element-test.false)))

pub fields_json-returns-in-None : goal.fields_json-returns-in-None
fields_json-returns-in-None t c =
    let l = c.loop-number in
    view-Object l.members ∙ ap object
    (sym (members_data-past c.args.decls.now c.args.fields.now c.args.values.now l.number
    (members_view l.members.entries) (search rules)) ∙ l.invariant)

pub fields_json-loop-number-preserved : goal.fields_json-loop-number-preserved
fields_json-loop-number-preserved t c =
    let l = c.loop-number in
    members_data-next c.args.decls.now l.members.entries c.insert.new.self.entries c.args.fields.now c.args.values.now
    l.number c.in-Some.field.now c.value-item.result c.in_ok-name.name c.in_ok-value_json.field-0
    (search rules) (search rules) (search rules) (search rules) (search rules) c.in_ok-insert.ensures.entries
    ∙ l.invariant

pub fields_json-returns : goal.fields_json-returns
fields_json-returns t c =
    let l = c.loop-number in
    let same = ap length c.as_slice-value-items.ensures in
    view-Object l.members ∙ ap object
    (sym (members_data-end c.args.decls.now c.args.fields.now c.args.values.now l.number
    (members_view l.members.entries) (omega (arith, same, c.loop-number-test.false))) ∙ l.invariant)
