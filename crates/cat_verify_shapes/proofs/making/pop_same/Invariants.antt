use Rattle.std.proofs.Common.{◌≡◌, ◌++◌, replicate}
use Rattle.cat_verify_shapes.proofs.making.pop_same.Given as goal

abbrev pub invariant-loop : goal.invariant-loop
invariant-loop l = l.fn.shape ≡ record l.shape { operands = replicate l.counter l.form ++ l.shape.operands }
