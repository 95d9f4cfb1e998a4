use Rattle.std.proofs.Common.{◌≡◌, ◌≤◌, drop, length}
use Rattle.cat_code.specs.Wanted.{are_passed}
use Rattle.cat_verify_shapes.proofs.calling.are_passed.Given as goal

abbrev pub invariant-loop-at : goal.invariant-loop-at
invariant-loop-at l = record {
  rest : are_passed (drop l.at l.items) (drop l.at l.passed) ≡ are_passed l.items l.passed;
  long : length l.items ≤ length l.passed;
}
