use Rattle.cat_verify_shapes.specs.inside.Senses.{IsTable}
use Rattle.cat_verify_shapes.proofs.forms.Forms.add_all.Given as goal

abbrev pub invariant-loop-constant : goal.invariant-loop-constant
invariant-loop-constant l = IsTable l.tables.decls l.self
