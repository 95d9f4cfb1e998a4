use Rattle.std.proofs.Common.{◌≡◌, ◌≤◌, ◌++◌, length, drop, reverse}
use Rattle.cat_verify_shapes.proofs.calling.pop_params.Given as goal

abbrev pub invariant-loop-left : goal.invariant-loop-left
invariant-loop-left l = record {
  within : l.left ≤ length l.params;
  taken : l.fn.shape ≡ record l.shape { operands = reverse (drop l.left l.params) ++ l.shape.operands };
}

abbrev pub decreases-loop-left : goal.decreases-loop-left
decreases-loop-left l = l.left
