use Rattle.std.proofs.Common.{◌≡◌, ◌+◌, take}
use Rattle.cat_value.specs.declared.declaration.Case.{Case}
use Rattle.cat_scope.specs.Names.{AllHave}
use Rattle.cat_verify_tables.specs.inside.HighWords.{IsLowContent}
use Rattle.cat_verify_tables.proofs.heights.Measures.refuse_cases.Given as goal

abbrev pub invariant-loop-case : goal.invariant-loop-case
invariant-loop-case l = record {
  line : l.line ≡ l.first + 1 + l.case-index;
  low : AllHave (λ (x : Case). IsLowContent l.self x.content) (take l.case-index l.enumeration.cases);
}
