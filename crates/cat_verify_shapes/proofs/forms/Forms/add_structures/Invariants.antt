use Rattle.std.proofs.Common.{◌≡◌}
use Rattle.cat_verify_shapes.specs.inside.Senses.{IsTable}
use Rattle.cat_verify_shapes.proofs.forms.Forms.add_structures.Given as goal

abbrev pub invariant-loop-number : goal.invariant-loop-number
invariant-loop-number l = record { table : IsTable l.decls l.self; outputs : l.self.outputs ≡ l.fn.self.outputs }
