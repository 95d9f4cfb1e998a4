use Rattle.std.proofs.Common.{◌-◌, length}
use Rattle.cat_parse.proofs.Common.{a_case, is_dashes}
use Rattle.cat_parse.proofs.Turns.{Stands, one_and_more}
use Rattle.cat_parse.proofs.parts.enumeration_cases.Given as goal

abbrev pub invariant-loop-alloc : goal.invariant-loop-alloc
invariant-loop-alloc l = Stands is_dashes a_case (one_and_more a_case is_dashes a_case) l.tokens l.at l.place l.cases

abbrev pub decreases-loop-alloc : goal.decreases-loop-alloc
decreases-loop-alloc l = length l.tokens - l.place
