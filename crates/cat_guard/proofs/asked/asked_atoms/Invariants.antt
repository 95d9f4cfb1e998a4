use Rattle.std.proofs.Common.{◌≡◌, ◌++◌, drop}
use Rattle.cat_guard.specs.Judgements.{asked_in}
use Rattle.cat_guard.proofs.asked.asked_atoms.Given as goal

abbrev pub invariant-loop-def : goal.invariant-loop-def
invariant-loop-def l = l.atoms ++ asked_in (drop l.def-index l.defs) ≡ asked_in l.defs
