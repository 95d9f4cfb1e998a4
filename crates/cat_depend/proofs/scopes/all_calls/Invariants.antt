use Rattle.std.proofs.Common.{◌≡◌, ◌++◌, drop}
use Rattle.cat_scope.specs.Orders.{called_in}
use Rattle.cat_depend.proofs.scopes.all_calls.Given as goal

abbrev pub invariant-loop-part : goal.invariant-loop-part
invariant-loop-part l = l.calls ++ called_in l.items (drop l.part-index l.source) l.defs l.assertions
    ≡ called_in l.items l.source l.fn.defs l.fn.assertions
