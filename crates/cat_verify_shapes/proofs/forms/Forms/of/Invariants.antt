use Rattle.std.proofs.Common.{◌≡◌, replicate, None}
use Rattle.cat_verify_shapes.proofs.forms.Forms.of.Given as goal

abbrev pub invariant-loop : goal.invariant-loop
invariant-loop l = l.structures ≡ replicate l.counter None
