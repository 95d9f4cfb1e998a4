use Rattle.std.proofs.Common.{◌≡◌, ◌++◌, ◌+◌, ◌*◌, map, drop}
use Rattle.cat_calc.specs.inside.Numbered.{groups_in}
use Rattle.cat_calc.specs.inside.Terms.{group_term}
use Rattle.cat_calc.proofs.terms.+group.Given as goal

abbrev pub decreases-group_term : goal.decreases-group_term
decreases-group_term l = 2 * l.room

abbrev pub decreases-group_terms : goal.decreases-group_terms
decreases-group_terms l = 2 * l.room + 1

abbrev pub invariant-group_terms-loop-number : goal.invariant-group_terms-loop-number
invariant-group_terms-loop-number l =
    l.terms ++ map (group_term (groups_in l.defs l.forest.target) l.room) (drop l.number-index l.numbers)
    ≡ map (group_term (groups_in l.defs l.forest.target) l.room) l.numbers
