use Rattle.std.proofs.Common.{◌≡◌, ◌++◌, drop}
use Rattle.cat_lower.specs.Starts as words
use Rattle.cat_lower.proofs.starts.outputs_of_each.Given as goal

abbrev pub invariant-loop-scope : goal.invariant-loop-scope
invariant-loop-scope l =
    l.outputs ++ words.outputs_of_each (drop l.scope-index l.scopes) ≡ words.outputs_of_each l.scopes
