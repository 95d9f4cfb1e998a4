use Rattle.std.proofs.Common.{◌≤◌, length, drop}
use Rattle.cat_value.specs.Inputs.{outputs_in}
use Rattle.cat_code.specs.Forms.{items_forms}
use Rattle.cat_verify_shapes.specs.inside.Senses.{Grows}
use Rattle.cat_verify_shapes.specs.inside.Growing.{StandsRow}
use Rattle.cat_verify_shapes.proofs.forms.Forms.add_outputs.Given as goal

abbrev pub invariant-loop-left : goal.invariant-loop-left
invariant-loop-left l = record {
  within : l.left ≤ length l.items;
  grows : Grows l.fn.self l.self;
  row : StandsRow l.decls l.self l.row (items_forms l.decls (outputs_in (drop l.left l.items)));
}

abbrev pub decreases-loop-left : goal.decreases-loop-left
decreases-loop-left l = l.left
