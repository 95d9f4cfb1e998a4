use Rattle.std.proofs.Common.{◌≡◌, ◌++◌, drop, map}
use Rattle.cat_verify.specs.inside.OwnerNumbers.{with_places}
use Rattle.cat_verify.proofs.owners.with_places.Given as goal

abbrev pub invariant-loop-number : goal.invariant-loop-number
invariant-loop-number l =
    l.owners ++ map (with_places l.scopes l.functions l.members) (drop l.number-index l.listed)
    ≡ map (with_places l.scopes l.functions l.members) l.listed
