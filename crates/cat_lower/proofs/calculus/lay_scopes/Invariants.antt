use Rattle.std.proofs.Common.{drop}
use Rattle.cat_lower.specs.Lowered.{scopes_laid, none}
use Rattle.cat_lower.proofs.Drafting.{GoesTo, left_of}
use Rattle.cat_lower.proofs.calculus.lay_scopes.Given as goal

abbrev pub invariant-loop-number : goal.invariant-loop-number
invariant-loop-number l =
    GoesTo l.draft (left_of l.decls l.number (drop l.number l.decls.scopes) (drop l.number l.scopes) l.draft)
    (scopes_laid l.decls 0 0 0 l.decls.scopes l.scopes none)
