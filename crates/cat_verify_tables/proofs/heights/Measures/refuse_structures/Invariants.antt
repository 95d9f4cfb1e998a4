use Rattle.std.proofs.Common.{◌≡◌, ◌+◌, take}
use Rattle.cat_scope.specs.Names.{AllHave}
use Rattle.cat_verify_tables.specs.inside.Causes.{lines_in}
use Rattle.cat_verify_tables.specs.inside.Ordering.{fields_of}
use Rattle.cat_verify_tables.specs.inside.HighWords.{AreLowFields}
use Rattle.cat_verify_tables.proofs.heights.Measures.refuse_structures.Given as goal

abbrev pub invariant-loop-structure : goal.invariant-loop-structure
invariant-loop-structure l = record {
  line : l.line ≡ l.first + lines_in fields_of (take l.structure-index l.entries);
  low : AllHave (AreLowFields l.self) (take l.structure-index l.entries);
}
