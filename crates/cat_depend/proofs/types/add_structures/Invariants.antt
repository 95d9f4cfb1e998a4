use Rattle.std.proofs.Common.{◌≡◌, ◌++◌, IsTrue, map, take, drop, length}
use Rattle.std.specs.List.{list_all}
use Rattle.cat_value.specs.Declarations.{field_is_sound}
use Rattle.cat_value.specs.Dependencies.{named_by_fields}
use Rattle.cat_depend.proofs.types.add_structures.Given as goal

abbrev pub invariant-loop-structure : goal.invariant-loop-structure
invariant-loop-structure l = record {
  declared : IsTrue (list_all (λ s. list_all (field_is_sound l.structures l.enumerations) s.fields)
      (drop l.structure-index l.structures));
  named : l.dependencies ≡ l.fn.dependencies
      ++ map (λ s. named_by_fields (length l.structures) s.fields) (take l.structure-index l.structures);
}
