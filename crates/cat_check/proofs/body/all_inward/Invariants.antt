use Rattle.std.proofs.Common.{◌≡◌, drop}
use Rattle.std.specs.Prelude.{flat_map}
use Rattle.cat_names.specs.Bodies.{outward_function}
use Rattle.cat_check.proofs.body.all_inward.Given as goal

abbrev pub invariant-loop-item : goal.invariant-loop-item
invariant-loop-item l = flat_map outward_function l.items ≡ flat_map outward_function (drop l.item-index l.items)
