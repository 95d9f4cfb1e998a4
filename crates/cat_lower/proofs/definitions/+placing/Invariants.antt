use Rattle.std.proofs.Common.{◌≡◌, ◌+◌, ◌*◌, drop}
use denote.Param.Weighed.{most}
use Rattle.cat_calc.specs.declared.term.DefaultTerm.{size-DefaultTerm}
use Rattle.cat_lower.specs.Definitions.{terms_placed}
use Rattle.cat_lower.proofs.definitions.+placing.Given as goal

abbrev pub decreases-place_term : goal.decreases-place_term
decreases-place_term l = 2 * size-DefaultTerm l.term.now

abbrev pub decreases-place_terms : goal.decreases-place_terms
decreases-place_terms l = 2 * most size-DefaultTerm l.terms.now + 1

abbrev pub invariant-place_terms-loop-term : goal.invariant-place_terms-loop-term
invariant-place_terms-loop-term l =
    terms_placed (drop l.term-index l.terms) l.positions ≡ terms_placed l.terms l.fn.positions
