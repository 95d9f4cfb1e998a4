use Rattle.std.proofs.Common.{◌≤◌, length, drop}
use Rattle.cat_code.specs.Forms.{form_of, forms_in}
use Rattle.cat_verify_shapes.specs.inside.Senses.{Grows}
use Rattle.cat_verify_shapes.specs.inside.Growing.{StandsRow}
use Rattle.cat_verify_shapes.proofs.forms.Forms.add_fields.Given as goal

abbrev pub invariant-loop-left : goal.invariant-loop-left
invariant-loop-left l = record {
  within : l.left ≤ length l.fields;
  grows : Grows l.fn.self l.self;
  row : StandsRow l.decls l.self l.row (forms_in (form_of l.decls) (drop l.left l.fields));
}

abbrev pub decreases-loop-left : goal.decreases-loop-left
decreases-loop-left l = l.left
