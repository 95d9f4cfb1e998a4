use Rattle.std.proofs.Common.{◌≡◌, ◌++◌, take}
use Rattle.std.specs.Prelude.{flat_map}
use Rattle.cat_check.specs.inside.Calling.{called_about}
use Rattle.cat_check.proofs.scope_order.add_called.Given as goal

abbrev pub invariant-loop-block : goal.invariant-loop-block
invariant-loop-block l =
    l.positions ≡ l.fn.positions ++ flat_map (called_about l.table l.caller l.called) (take l.block-index l.blocks)
