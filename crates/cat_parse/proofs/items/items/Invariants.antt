use Rattle.std.proofs.Common.{◌-◌, length}
use Rattle.cat_parse.specs.Expression.{expression}
use Rattle.cat_parse.proofs.Common.{many, is_item, an_item}
use Rattle.cat_parse.proofs.Turns.{Stands}
use Rattle.cat_parse.proofs.items.items.Given as goal

abbrev pub invariant-loop-alloc : goal.invariant-loop-alloc
invariant-loop-alloc l =
    Stands is_item (an_item expression) (many is_item (an_item expression)) l.tokens l.at l.place l.items

abbrev pub decreases-loop-alloc : goal.decreases-loop-alloc
decreases-loop-alloc l = length l.tokens - l.place
