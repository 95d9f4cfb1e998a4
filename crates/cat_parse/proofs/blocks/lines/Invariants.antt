use Rattle.std.proofs.Common.{◌-◌, length}
use Rattle.cat_parse.specs.Expression.{expression}
use Rattle.cat_parse.proofs.Common.{many, is_use, a_use}
use Rattle.cat_parse.proofs.Turns.{Stands}
use Rattle.cat_parse.proofs.blocks.lines.Given as goal

abbrev pub invariant-loop-alloc : goal.invariant-loop-alloc
invariant-loop-alloc l =
    Stands is_use (a_use expression) (many is_use (a_use expression)) l.tokens l.at l.place l.lines

abbrev pub decreases-loop-alloc : goal.decreases-loop-alloc
decreases-loop-alloc l = length l.tokens - l.place
