use Rattle.std.proofs.Common.{◌-◌, length}
use Rattle.cat_parse.proofs.Common.{is_comma, comma, typed_name}
use Rattle.cat_parse.proofs.Turns.{Stands, one_and_more}
use Rattle.cat_parse.proofs.parts.listed_params.Given as goal

abbrev pub invariant-loop-alloc : goal.invariant-loop-alloc
invariant-loop-alloc l =
    Stands is_comma (comma typed_name)
    (one_and_more typed_name is_comma (comma typed_name)) l.tokens l.at l.place l.params

abbrev pub decreases-loop-alloc : goal.decreases-loop-alloc
decreases-loop-alloc l = length l.tokens - l.place
