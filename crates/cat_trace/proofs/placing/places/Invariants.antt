use Rattle.std.proofs.Common.{◌≡◌, map, take}
use Rattle.cat_trace.specs.Over.{placed_at}
use Rattle.cat_trace.proofs.placing.places.Given as goal

abbrev pub invariant-loop-pos : goal.invariant-loop-pos
invariant-loop-pos l = l.places ≡ map (placed_at l.headings l.pieces) (take l.pos-index l.positions)
