-- The positions of the definitions of a scope, read off its terms.
use Rattle.std.specs.Prelude.{ℕ, zero, suc, List, [], ◌∷◌}
use Rattle.cat_pos.specs.declared.pos.Pos.{Pos}
use Rattle.cat_scope.specs.declared.expr.Expr.{Expr}
use Rattle.cat_scope.specs.Judging.{Held}
use Rattle.cat_calc.specs.declared.term.DefaultTerm.{DefaultTerm}
use Rattle.cat_calc.specs.declared.calcs.ItemTerms.{ItemTerms}
use Rattle.cat_calc.specs.Terms.{consequences_in}
use Rattle.cat_calc.specs.WellFormed.{all_terms}

-- positions with one more at a number, where numbers in front that have none have it too
abbrev pub placed : ℕ → Pos → List Pos → List Pos
placed zero p [] = p ∷ []
placed zero p (q ∷ qs) = p ∷ qs
placed (suc n) p [] = p ∷ placed n p []
placed (suc n) p (q ∷ qs) = q ∷ placed n p qs

-- definitions at their numbers
abbrev pub all_placed : List (Held Expr) → List Pos → List Pos
all_placed [] ps = ps
all_placed (h ∷ hs) ps = all_placed hs (placed h.number h.pos ps)

-- the same, of the terms of items
abbrev pub terms_placed : List DefaultTerm → List Pos → List Pos
terms_placed [] ps = ps
terms_placed (t ∷ ts) ps = terms_placed ts (all_placed (consequences_in t) ps)

-- the positions of the definitions of a scope, at their numbers
abbrev pub definitions_of : List ItemTerms → List Pos → List Pos
definitions_of [] ps = ps
definitions_of (terms ∷ rest) ps = definitions_of rest (terms_placed (all_terms terms) ps)
