use Rattle.std.proofs.Common.{◌≡◌, ◌++◌, take}
use Rattle.std.specs.Prelude.{flat_map}
use Rattle.cat_check.specs.inside.Calling.{declared_at}
use Rattle.cat_check.proofs.declared.add_declared.Given as goal

abbrev pub invariant-loop-item : goal.invariant-loop-item
invariant-loop-item l =
    l.positions ≡ l.fn.positions ++ flat_map (declared_at l.called) (take l.item-index l.items)
