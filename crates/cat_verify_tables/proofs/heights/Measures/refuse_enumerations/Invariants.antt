use Rattle.std.proofs.Common.{◌≡◌, ◌+◌, take}
use Rattle.cat_scope.specs.Names.{AllHave}
use Rattle.cat_verify_tables.specs.inside.Causes.{lines_in}
use Rattle.cat_verify_tables.specs.inside.Ordering.{cases_of}
use Rattle.cat_verify_tables.specs.inside.HighWords.{AreLowCases}
use Rattle.cat_verify_tables.proofs.heights.Measures.refuse_enumerations.Given as goal

abbrev pub invariant-loop-enumeration : goal.invariant-loop-enumeration
invariant-loop-enumeration l = record {
  line : l.line ≡ l.first + lines_in cases_of (take l.enumeration-index l.entries);
  low : AllHave (AreLowCases l.self) (take l.enumeration-index l.entries);
}
