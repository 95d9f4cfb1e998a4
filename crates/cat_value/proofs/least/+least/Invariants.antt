use Rattle.std.proofs.Common.{◌≡◌, ◌≤◌, IsTrue, ◌+◌, ◌*◌, ◌++◌, drop}
use Rattle.std.specs.List.{list_all}
use Rattle.cat_value.specs.Declarations.{field_is_sound}
use Rattle.cat_value.specs.Heights.{height_to, highest_field}
use Rattle.cat_value.specs.Defaults.{default_to, default_fields}
use Rattle.cat_value.proofs.least.+least.Given as goal

abbrev pub decreases-least_at : goal.decreases-least_at
decreases-least_at l = 2 * l.depth

abbrev pub decreases-least_fields : goal.decreases-least_fields
decreases-least_fields l = 2 * l.depth + 1

abbrev pub invariant-least_fields-loop-field : goal.invariant-least_fields-loop-field
invariant-least_fields-loop-field l = record {
  declared : IsTrue (list_all (field_is_sound l.decls.structures l.decls.enumerations) (drop l.field-index l.fields));
  height : highest_field (height_to l.decls.structures l.decls.enumerations l.depth) (drop l.field-index l.fields) ≤
      l.depth;
  made : l.values ++ default_fields (default_to l.decls l.depth) (drop l.field-index l.fields) ≡ default_fields
      (default_to l.decls l.depth) l.fields;
}
