use Rattle.std.proofs.Common.{take}
use Rattle.cat_except.specs.inside.Linked.{AreShort}
use Rattle.cat_except.proofs.linked.check_chains.Given as goal

abbrev pub invariant-loop-target : goal.invariant-loop-target
invariant-loop-target l = AreShort (take l.target-index l.targets)
