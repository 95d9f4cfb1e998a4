use Rattle.std.proofs.Common.{◌≡◌, ◌-◌, suc, length}
use Rattle.cat_lower.specs.Definitions.{placed}
use Rattle.cat_lower.proofs.definitions.place.Given as goal

abbrev pub invariant-loop-positions : goal.invariant-loop-positions
invariant-loop-positions l = placed l.number l.pos l.positions ≡ placed l.number l.pos l.fn.positions

abbrev pub decreases-loop-positions : goal.decreases-loop-positions
decreases-loop-positions l = suc l.number - length l.positions
