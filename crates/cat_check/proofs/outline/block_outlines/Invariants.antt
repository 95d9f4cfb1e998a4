use Rattle.std.proofs.Common.{◌≡◌, take}
use Rattle.std.specs.Prelude.{flat_map}
use Rattle.cat_check.specs.Outlined.{item_outline}
use Rattle.cat_check.proofs.outline.block_outlines.Given as goal

abbrev pub invariant-loop-item : goal.invariant-loop-item
invariant-loop-item l = l.blocks ≡ flat_map item_outline (take l.item-index l.items)
