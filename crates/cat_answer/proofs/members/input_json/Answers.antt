use Rattle.std.proofs.Common.{◌∙◌, sym, ap, arith, rules, length}
use Rattle.serde_json.specs.Data.{object}
use Rattle.serde_json.specs.View.{members_view}
use Rattle.serde_json.proofs.Views.{view-Object}
use Rattle.cat_answer.proofs.ObjectSteps.{inputs_data-given, inputs_data-skip, inputs_data-past, inputs_data-end}
use Rattle.cat_answer.proofs.members.input_json.Goals as goal

pub returns-in-None : goal.returns-in-None
returns-in-None c =
    let l = c.loop-number in
    view-Object l.members ∙ ap object
    (sym (inputs_data-past c.args.decls.now c.args.items.now c.args.input.now l.number (members_view l.members.entries)
    (search rules)) ∙ l.invariant)

pub loop-number-preserved-in-None-given : goal.loop-number-preserved-in-None-given
loop-number-preserved-in-None-given c =
    let l = c.loop-number in
    inputs_data-skip c.args.decls.now c.args.items.now c.args.input.now l.number c.item-item.result
    (members_view l.members.entries) (search rules) (search rules) (search rules) ∙ l.invariant

pub loop-number-preserved : goal.loop-number-preserved
loop-number-preserved c =
    let l = c.loop-number in
    inputs_data-given c.args.decls.now l.members.entries c.insert.new.self.entries c.args.items.now c.args.input.now
    l.number c.item-item.result c.in-Some-given.value c.in_ok-name.name c.in_ok-value_json.field-0
    (search rules) (search rules) (search rules) (search rules) (search rules) c.in_ok-insert.ensures.entries
    ∙ l.invariant

pub returns : goal.returns
returns c =
    let l = c.loop-number in
    let same = ap length c.as_slice-item-items.ensures in
    view-Object l.members ∙ ap object
    (sym (inputs_data-end c.args.decls.now c.args.items.now c.args.input.now l.number (members_view l.members.entries)
    (omega (arith, same, c.loop-number-test.false))) ∙ l.invariant)
