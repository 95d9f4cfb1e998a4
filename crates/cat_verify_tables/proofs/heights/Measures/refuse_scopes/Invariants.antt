use Rattle.std.proofs.Common.{◌≡◌, ◌+◌, take}
use Rattle.cat_scope.specs.Names.{AllHave}
use Rattle.cat_verify_tables.specs.inside.Causes.{lines_in}
use Rattle.cat_verify_tables.specs.inside.Ordering.{items_of}
use Rattle.cat_verify_tables.specs.inside.HighWords.{AreLowItems}
use Rattle.cat_verify_tables.proofs.heights.Measures.refuse_scopes.Given as goal

abbrev pub invariant-loop-scope : goal.invariant-loop-scope
invariant-loop-scope l = record {
  line : l.line ≡ l.first + lines_in items_of (take l.scope-index l.entries);
  low : AllHave (AreLowItems l.self) (take l.scope-index l.entries);
}
