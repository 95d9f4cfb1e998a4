use Rattle.std.proofs.Common.{◌≡◌, ◌++◌, IsTrue, map, take, drop, length}
use Rattle.std.specs.List.{list_all}
use Rattle.cat_value.specs.Declarations.{case_is_sound}
use Rattle.cat_value.specs.Dependencies.{named_by_cases}
use Rattle.cat_depend.proofs.types.add_enumerations.Given as goal

abbrev pub invariant-loop-enumeration : goal.invariant-loop-enumeration
invariant-loop-enumeration l = record {
  declared : IsTrue (list_all (λ e. list_all (case_is_sound l.structures l.enumerations) e.cases)
      (drop l.enumeration-index l.enumerations));
  named : l.dependencies ≡ l.fn.dependencies
      ++ map (λ e. named_by_cases (length l.structures) e.cases) (take l.enumeration-index l.enumerations);
}
