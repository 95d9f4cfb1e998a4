use Rattle.std.proofs.Common.{drop}
use Rattle.cat_code.specs.Tame.{AreForward}
use Rattle.cat_verify.proofs.jumps.refuse_back.Given as goal

abbrev pub invariant-loop-at : goal.invariant-loop-at
invariant-loop-at l = AreForward l.code l.at (drop l.at l.code) → AreForward l.code 0 l.code
