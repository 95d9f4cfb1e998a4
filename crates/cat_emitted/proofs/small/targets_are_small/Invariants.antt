use Rattle.std.proofs.Common.{take}
use Rattle.cat_scope.specs.Names.{AllHave}
use Rattle.cat_emitted.specs.Emitted.{IsSmallPos}
use Rattle.cat_emitted.proofs.small.targets_are_small.Given as goal

abbrev pub invariant-loop-target : goal.invariant-loop-target
invariant-loop-target l = AllHave (λ t. IsSmallPos t.pos) (take l.target-index l.targets)
