use Rattle.cat_lower.proofs.Placing.{placed_Empty, placed_Consequence_ok, placed_Default_ok}
use Rattle.cat_lower.proofs.definitions.+placing.Goals as goal

pub place_term-returns-in-Empty : goal.place_term-returns-in-Empty
place_term-returns-in-Empty t c = placed_Empty _ _ c.in-Empty.is

pub place_term-returns-in-Consequence : goal.place_term-returns-in-Consequence
place_term-returns-in-Consequence t c = placed_Consequence_ok _ _ _ _ _ _ _ c.in-Consequence.is c.place.ensures

pub place_term-returns-in_ok-place_terms-in-Default : goal.place_term-returns-in_ok-place_terms-in-Default
place_term-returns-in_ok-place_terms-in-Default t c =
    placed_Default_ok _ _ _ _ _ _ _ _ _ c.in-Default.is c.get.ensures c.in_ok-place_terms-in-Default.ensures
    c.place_term.ensures
