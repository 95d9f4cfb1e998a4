use Rattle.std.proofs.Common.{◌≡◌, map, take}
use Rattle.cat_value.specs.Inputs.{must_be_given}
use Rattle.cat_verify_shapes.proofs.shapes.inputs.Given as goal

abbrev pub invariant-loop-item : goal.invariant-loop-item
invariant-loop-item l = l.flags ≡ map (λ item. must_be_given item.kind) (take l.item-index l.items)
