use Rattle.std.proofs.Common.{◌≡◌, length}
use Rattle.cat_search.specs.Ways.{turned}
use Rattle.cat_search.proofs.way.Way.turn.Given as goal

abbrev pub invariant-loop-atom : goal.invariant-loop-atom
invariant-loop-atom l = turned l.self ≡ turned l.fn.self

abbrev pub decreases-loop-atom : goal.decreases-loop-atom
decreases-loop-atom l = length l.self
