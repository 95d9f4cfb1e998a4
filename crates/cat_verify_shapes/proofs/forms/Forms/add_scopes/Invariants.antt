use Rattle.std.proofs.Common.{◌≡◌, length}
use Rattle.cat_verify_shapes.specs.inside.Senses.{IsTable}
use Rattle.cat_verify_shapes.proofs.forms.Forms.add_scopes.Given as goal

abbrev pub invariant-loop-scope : goal.invariant-loop-scope
invariant-loop-scope l = record { table : IsTable l.decls l.self; long : length l.self.outputs ≡ l.scope-index }
