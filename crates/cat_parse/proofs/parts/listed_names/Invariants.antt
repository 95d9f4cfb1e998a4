use Rattle.std.proofs.Common.{◌-◌, length}
use Rattle.cat_parse.proofs.Common.{lower, is_comma, comma}
use Rattle.cat_parse.proofs.Turns.{Stands, one_and_more}
use Rattle.cat_parse.proofs.parts.listed_names.Given as goal

abbrev pub invariant-loop-alloc : goal.invariant-loop-alloc
invariant-loop-alloc l =
    Stands is_comma (comma lower) (one_and_more lower is_comma (comma lower)) l.tokens l.at l.place l.names

abbrev pub decreases-loop-alloc : goal.decreases-loop-alloc
decreases-loop-alloc l = length l.tokens - l.place
