use Rattle.std.proofs.Common.{drop, length}
use Rattle.cat_scope.specs.Names.{IsOneOf}
use Rattle.cat_verify.specs.inside.CallNumbers.{calls_from}
use Rattle.cat_verify.proofs.calls.place_of.Given as goal

-- the call is still to come
abbrev pub invariant-loop-at : goal.invariant-loop-at
invariant-loop-at l =
    IsOneOf (record { bucket = l.called; number = l.caller })
    (calls_from (length l.tables.scopes) l.marks l.at (drop l.at l.code))
