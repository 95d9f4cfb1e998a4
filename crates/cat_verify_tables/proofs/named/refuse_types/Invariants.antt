use Rattle.std.proofs.Common.{◌≡◌, ◌+◌, [], take}
use Rattle.cat_verify_tables.specs.inside.Causes.{lines_in}
use Rattle.cat_verify_tables.specs.inside.NamedWords.{item_count}
use Rattle.cat_verify_tables.specs.inside.Entries.{AreRight}
use Rattle.cat_verify_tables.specs.inside.NamedWords.{IsNamedAsType, names_in}
use Rattle.cat_verify_tables.proofs.named.refuse_types.Given as goal

abbrev pub invariant-loop-scope : goal.invariant-loop-scope
invariant-loop-scope l = record {
  line : l.line ≡ l.first + lines_in item_count (take l.scope-index l.scopes);
  right : AreRight (IsNamedAsType (names_in l.types)) [] (take l.scope-index l.scopes);
}
