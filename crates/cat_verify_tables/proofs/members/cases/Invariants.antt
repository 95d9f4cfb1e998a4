use Rattle.std.proofs.Common.{◌≡◌, ◌≤◌, [], take}
use Rattle.cat_value.specs.Declarations.{most_cases}
use Rattle.cat_verify_tables.specs.inside.Entries.{AreTold}
use Rattle.cat_verify_tables.specs.inside.NamedWords.{names_in}
use Rattle.cat_verify_tables.specs.inside.PartWords.{IsCaseOf, case_names}
use Rattle.cat_verify_tables.proofs.members.cases.Given as goal

abbrev pub invariant-loop-at : goal.invariant-loop-at
invariant-loop-at l = record {
  names : names_in l.names ≡ case_names (take l.at l.lines);
  told : AreTold (λ front. IsCaseOf l.types (case_names front)) [] (take l.at l.lines) l.cases;
  few : l.at ≤ most_cases;
}
