use Rattle.std.proofs.Common.{◌∙◌, sym, ap, arith, rules, length, drop}
use Rattle.serde_json.specs.Data.{object}
use Rattle.serde_json.specs.View.{members_view}
use Rattle.serde_json.proofs.Views.{view-Object}
use Rattle.cat_value.specs.Inputs.{outputs_in}
use Rattle.cat_answer.proofs.ObjectSteps.{outputs_data-next, outputs_data-past, outputs_data-end}
use Rattle.cat_answer.proofs.members.outputs_json.Goals as goal

pub returns-in-None : goal.returns-in-None
returns-in-None c =
    let l = c.loop-item in
    view-Object l.members ∙ ap object
    (sym (outputs_data-past c.args.decls.now
    (outputs_in (drop l.item-index c.args.items.now)) c.args.values.now l.number (members_view l.members.entries)
    (search rules)) ∙ l.invariant.made)

pub loop-item-preserved : goal.loop-item-preserved
loop-item-preserved c =
    let l = c.loop-item in
    record {
      few = let h = l.invariant.few in omega arith;
      made =
          outputs_data-next c.args.decls.now l.members.entries c.insert.new.self.entries c.args.items.now
          c.args.values.now l.item-index l.number c.item-item.result c.in-Some.value.now c.in_ok-name.name
          c.in_ok-value_json.field-0
          (search rules) (search rules) (search rules) (search rules) (search rules)
          (search rules) c.in_ok-insert.ensures.entries ∙ l.invariant.made;
    }

pub returns : goal.returns
returns c =
    let l = c.loop-item in
    let same = ap length c.as_slice-item-items.ensures in
    view-Object l.members ∙ ap object
    (sym (outputs_data-end c.args.decls.now c.args.items.now c.args.values.now l.item-index l.number
    (members_view l.members.entries) (omega (arith, same, c.loop-item-test.false))) ∙ l.invariant.made)
