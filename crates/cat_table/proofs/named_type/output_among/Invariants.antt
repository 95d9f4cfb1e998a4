use Rattle.std.proofs.Common.{◌≡◌, drop, slice_get}
use Rattle.cat_value.specs.Inputs.{outputs_in}
use Rattle.cat_table.proofs.named_type.output_among.Given as goal

abbrev pub invariant-loop-item : goal.invariant-loop-item
invariant-loop-item l =
    slice_get (outputs_in (drop l.item-index l.items)) l.left ≡ slice_get (outputs_in l.items) l.number
