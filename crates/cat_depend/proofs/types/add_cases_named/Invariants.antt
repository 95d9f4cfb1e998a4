use Rattle.std.proofs.Common.{◌≡◌, ◌++◌, IsTrue, drop, length}
use Rattle.std.specs.List.{list_all}
use Rattle.cat_value.specs.Declarations.{case_is_sound}
use Rattle.cat_value.specs.Dependencies.{named_by_cases}
use Rattle.cat_depend.proofs.types.add_cases_named.Given as goal

abbrev pub invariant-loop-case : goal.invariant-loop-case
invariant-loop-case l = record {
  declared : IsTrue (list_all (case_is_sound l.structures l.enumerations) (drop l.case-index l.cases));
  named : l.named ++ named_by_cases (length l.structures) (drop l.case-index l.cases)
      ≡ l.fn.named ++ named_by_cases (length l.structures) l.cases;
}
