use Rattle.std.proofs.Common.{drop}
use Rattle.cat_guard.specs.Conjuncts.{AreOfDefs}
use Rattle.cat_guard.proofs.ConjunctLaws.{AreSoFar}
use Rattle.cat_guard.proofs.conjuncts.def_conjuncts.Given as goal

abbrev pub invariant-loop-def : goal.invariant-loop-def
invariant-loop-def l = AreSoFar AreOfDefs (drop l.def-index l.defs) l.defs l.made
