use Rattle.std.proofs.Common.{take}
use Rattle.cat_scope.specs.Names.{AllHave}
use Rattle.cat_emitted.specs.Emitted.{IsSmallPos}
use Rattle.cat_emitted.proofs.small.items_are_small.Given as goal

abbrev pub invariant-loop-item : goal.invariant-loop-item
invariant-loop-item l = AllHave (λ i. IsSmallPos i.pos) (take l.item-index l.items)
