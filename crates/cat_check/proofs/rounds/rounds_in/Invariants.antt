use Rattle.std.proofs.Common.{◌≡◌, take}
use Rattle.std.specs.Prelude.{flat_map}
use Rattle.cat_names.specs.Bodies.{item_rounds}
use Rattle.cat_check.proofs.rounds.rounds_in.Given as goal

abbrev pub invariant-loop-item : goal.invariant-loop-item
invariant-loop-item l = l.rounds ≡ flat_map item_rounds (take l.item-index l.items)
