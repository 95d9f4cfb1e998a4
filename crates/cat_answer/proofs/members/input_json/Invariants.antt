use Rattle.std.proofs.Common.{◌≡◌, drop}
use Rattle.serde_json.specs.Data.{no_members}
use Rattle.serde_json.specs.View.{members_view}
use Rattle.cat_answer.specs.Writes.{inputs_data}
use Rattle.cat_answer.proofs.members.input_json.Given as goal

abbrev pub invariant-loop-number : goal.invariant-loop-number
invariant-loop-number l =
    inputs_data l.decls (drop l.number l.items) (drop l.number l.input)
    (members_view l.members.entries) ≡ inputs_data l.decls l.items l.input no_members
