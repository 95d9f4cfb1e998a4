use Rattle.std.proofs.Common.{◌≡◌, ◌++◌, IsTrue, drop, length}
use Rattle.std.specs.List.{list_all}
use Rattle.cat_value.specs.Declarations.{field_is_sound}
use Rattle.cat_value.specs.Dependencies.{named_by_fields}
use Rattle.cat_depend.proofs.types.add_fields_named.Given as goal

abbrev pub invariant-loop-field : goal.invariant-loop-field
invariant-loop-field l = record {
  declared : IsTrue (list_all (field_is_sound l.structures l.enumerations) (drop l.field-index l.fields));
  named : l.named ++ named_by_fields (length l.structures) (drop l.field-index l.fields)
      ≡ l.fn.named ++ named_by_fields (length l.structures) l.fields;
}
