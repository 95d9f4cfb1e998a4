use Rattle.std.proofs.Common.{◌-◌, length}
use Rattle.cat_parse.proofs.Common.{a_variable, is_variable, many}
use Rattle.cat_parse.proofs.Turns.{Stands}
use Rattle.cat_parse.proofs.scopes.scope_variables.Given as goal

abbrev pub invariant-loop-alloc : goal.invariant-loop-alloc
invariant-loop-alloc l = Stands is_variable a_variable (many is_variable a_variable) l.tokens l.at l.place l.variables

abbrev pub decreases-loop-alloc : goal.decreases-loop-alloc
decreases-loop-alloc l = length l.tokens - l.place
