use Rattle.std.proofs.Common.{◌≡◌, map, take}
use Rattle.cat_machine.specs.inside.Outcomes.{position_of}
use Rattle.cat_machine.proofs.ending.positions_of.Given as goal

abbrev pub invariant-loop-one : goal.invariant-loop-one
invariant-loop-one l = l.positions ≡ map (position_of l.code.tables) (take l.one-index l.held)
