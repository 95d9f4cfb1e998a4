use Rattle.std.proofs.Common.{◌≡◌, ◌++◌, drop, List, Option, IsTrue}
use Rattle.cat_value.specs.declared.value.Value.{Value}
use Rattle.cat_value.specs.Inputs.{are_given_for}
use Rattle.cat_audit_sound.specs.PointInputs.{given_from}
use Rattle.cat_audit_sound.specs.inside.PointTables.{found_in}
use Rattle.cat_audit_sound.proofs.input.given.Given as goal

abbrev pub invariant-loop-number : goal.invariant-loop-number
invariant-loop-number l = record {
  made : l.input ++ given_from l.decls (found_in l.points) l.number (drop l.number l.items)
      ≡ given_from l.decls (found_in l.points) 0 l.items;
  typed : (rest : List (Option Value)) → IsTrue (are_given_for l.decls (drop l.number l.items) rest)
      → IsTrue (are_given_for l.decls l.items (l.input ++ rest));
}
