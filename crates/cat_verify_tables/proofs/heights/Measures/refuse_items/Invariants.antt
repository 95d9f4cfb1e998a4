use Rattle.std.proofs.Common.{◌≡◌, ◌+◌, take}
use Rattle.cat_value.specs.declared.declaration.ItemDecl.{ItemDecl}
use Rattle.cat_scope.specs.Names.{AllHave}
use Rattle.cat_verify_tables.specs.inside.HighWords.{IsLowItem}
use Rattle.cat_verify_tables.proofs.heights.Measures.refuse_items.Given as goal

abbrev pub invariant-loop-item : goal.invariant-loop-item
invariant-loop-item l = record {
  line : l.line ≡ l.first + 1 + l.item-index;
  low : AllHave (λ (x : ItemDecl). IsLowItem l.self x) (take l.item-index l.scope.items);
}
