use Rattle.std.proofs.Common.{◌≡◌, ◌++◌, drop}
use Rattle.cat_depend.specs.Listed.{listed_calls}
use Rattle.cat_depend.proofs.scopes.listed_calls.Given as goal

abbrev pub invariant-loop-body : goal.invariant-loop-body
invariant-loop-body l = l.calls.items ++ listed_calls (drop l.body-index l.bodies) ≡ listed_calls l.bodies
