use Rattle.std.proofs.Common.{◌≡◌, drop, take, map}
use Rattle.serde_json.specs.View.{view, members_view}
use Rattle.serde_json.specs.Data.{no_members}
use Rattle.cat_answer.specs.Writes.{data_of}
use Rattle.cat_answer.specs.WrittenParts.{members_data}
use Rattle.cat_answer.proofs.writing.+write.Given as goal

abbrev pub invariant-elements_json-loop-element : goal.invariant-elements_json-loop-element
invariant-elements_json-loop-element l =
    map view l.items.items ≡ map (λ v. data_of l.decls v l.ty) (take l.element-index l.elements)

abbrev pub invariant-fields_json-loop-number : goal.invariant-fields_json-loop-number
invariant-fields_json-loop-number l =
    members_data l.decls (drop l.number l.fields) (drop l.number l.values)
    (members_view l.members.entries) ≡ members_data l.decls l.fields l.values no_members
