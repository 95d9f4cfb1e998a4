use Rattle.std.proofs.Common.{◌≡◌, take}
use Rattle.std.specs.Prelude.{flat_map}
use Rattle.cat_names.specs.NameFaults.{definition_positions}
use Rattle.cat_declare.proofs.blocks.positions_of.Given as goal

abbrev pub invariant-loop-item : goal.invariant-loop-item
invariant-loop-item l = l.positions ≡ flat_map definition_positions (take l.item-index l.items)
