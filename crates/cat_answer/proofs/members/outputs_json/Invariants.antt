use Rattle.std.proofs.Common.{◌≡◌, ◌≤◌, drop}
use Rattle.serde_json.specs.Data.{no_members}
use Rattle.serde_json.specs.View.{members_view}
use Rattle.cat_answer.specs.Answer.{outputs_data}
use Rattle.cat_value.specs.Inputs.{outputs_in}
use Rattle.cat_answer.proofs.members.outputs_json.Given as goal

abbrev pub invariant-loop-item : goal.invariant-loop-item
invariant-loop-item l = record {
  few : l.number ≤ l.item-index;
  made : outputs_data l.decls (outputs_in (drop l.item-index l.items)) (drop l.number l.values)
      (members_view l.members.entries) ≡ outputs_data l.decls (outputs_in l.items) l.values no_members;
}
