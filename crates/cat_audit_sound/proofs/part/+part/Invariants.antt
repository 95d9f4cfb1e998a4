use Rattle.std.proofs.Common.{◌≡◌, ◌≤◌, IsTrue, ◌+◌, ◌*◌, ◌++◌, drop, List}
use Rattle.std.specs.List.{list_all}
use Rattle.cat_value.specs.declared.value.Value.{Value}
use Rattle.cat_value.specs.Declarations.{field_is_sound}
use Rattle.cat_value.specs.Heights.{height_to, highest_field}
use Rattle.cat_value.specs.Typing.{fields_have_types}
use Rattle.cat_audit_sound.specs.PointInputs.{part_to, fields_from}
use Rattle.cat_audit_sound.specs.inside.PointTables.{found_in}
use Rattle.cat_audit_sound.proofs.part.+part.Given as goal

abbrev pub decreases-part : goal.decreases-part
decreases-part l = 2 * l.depth

abbrev pub decreases-parts : goal.decreases-parts
decreases-parts l = 2 * l.depth + 1

abbrev pub invariant-parts-loop-number : goal.invariant-parts-loop-number
invariant-parts-loop-number l = record {
  declared : IsTrue (list_all (field_is_sound l.decls.structures l.decls.enumerations) (drop l.number l.fields));
  height : highest_field (height_to l.decls.structures l.decls.enumerations l.depth) (drop l.number l.fields) ≤ l.depth;
  made : l.values ++ fields_from (part_to l.decls (found_in l.points) l.depth) l.path l.number (drop l.number l.fields)
      ≡ fields_from (part_to l.decls (found_in l.points) l.depth) l.path 0 l.fields;
  typed : (rest : List Value) → IsTrue (fields_have_types l.decls rest (drop l.number l.fields))
      → IsTrue (fields_have_types l.decls (l.values ++ rest) l.fields);
}
