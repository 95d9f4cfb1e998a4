use Rattle.std.proofs.Common.{◌≡◌, ◌≤◌, ◌+◌, ◌*◌, drop}
use Rattle.serde_json.specs.Data.{items_depth}
use Rattle.serde_json.specs.View.{view, items_view}
use Rattle.cat_json.specs.Reads.{elements_in, elements_of, field_values, data_members}
use Rattle.cat_json.proofs.Levels.{read_before}
use Rattle.cat_json.proofs.reading.+read.Given as goal

abbrev pub decreases-read_at : goal.decreases-read_at
decreases-read_at l = 6 * l.depth + 5

abbrev pub decreases-list_in : goal.decreases-list_in
decreases-list_in l = 6 * l.depth + 4

abbrev pub decreases-structure_in : goal.decreases-structure_in
decreases-structure_in l = 6 * l.depth + 4

abbrev pub decreases-enumeration_in : goal.decreases-enumeration_in
decreases-enumeration_in l = 6 * l.depth + 4

abbrev pub decreases-only_case : goal.decreases-only_case
decreases-only_case l = 6 * l.depth + 3

abbrev pub decreases-full_case : goal.decreases-full_case
decreases-full_case l = 6 * l.depth + 2

abbrev pub decreases-field_values : goal.decreases-field_values
decreases-field_values l = 6 * l.depth + 2

abbrev pub decreases-member_in : goal.decreases-member_in
decreases-member_in l = 6 * l.depth + 1

abbrev pub decreases-elements_in : goal.decreases-elements_in
decreases-elements_in l = 6 * l.depth + 6

abbrev pub invariant-elements_in-loop-k : goal.invariant-elements_in-loop-k
invariant-elements_in-loop-k l = record {
  nests : items_depth (items_view (drop l.k l.elements)) ≤ l.depth;
  made : read_before l.values (elements_in l.k (elements_of l.decls (items_view (drop l.k l.elements))) l.ty)
      ≡ elements_in 0 (elements_of l.decls (items_view l.elements)) l.ty;
}

abbrev pub invariant-field_values-loop-field : goal.invariant-field_values-loop-field
invariant-field_values-loop-field l = read_before l.values
    (field_values (data_members l.decls (view l.value)) (drop l.field-index l.fields)) ≡ field_values
    (data_members l.decls (view l.value)) l.fields
