use Rattle.cat_check.proofs.Chaining.{AreShortBelow}
use Rattle.cat_check.proofs.chains.refuse_long_functions.Given as goal

abbrev pub invariant-loop-number : goal.invariant-loop-number
invariant-loop-number l = AreShortBelow l.number l.decls.scopes l.bodies
