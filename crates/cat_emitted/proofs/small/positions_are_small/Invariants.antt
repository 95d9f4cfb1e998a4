use Rattle.std.proofs.Common.{take}
use Rattle.cat_scope.specs.Names.{AllHave}
use Rattle.cat_emitted.specs.Emitted.{IsSmallPos}
use Rattle.cat_emitted.proofs.small.positions_are_small.Given as goal

abbrev pub invariant-loop-pos : goal.invariant-loop-pos
invariant-loop-pos l = AllHave IsSmallPos (take l.pos-index l.positions)
