use Rattle.std.proofs.Common.{take}
use Rattle.cat_scope.specs.Names.{AllHave}
use Rattle.cat_emitted.specs.Emitted.{IsSmallPos}
use Rattle.cat_emitted.proofs.small.scopes_are_small.Given as goal

abbrev pub invariant-loop-scope : goal.invariant-loop-scope
invariant-loop-scope l = AllHave (λ s. AllHave (λ i. IsSmallPos i.pos) s.items) (take l.scope-index l.scopes)
