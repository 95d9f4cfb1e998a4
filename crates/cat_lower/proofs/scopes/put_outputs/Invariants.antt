use Rattle.std.proofs.Common.{drop}
use Rattle.cat_lower.specs.declared.growing.Growing.{Growing}
use Rattle.cat_lower.specs.Grown.{Grown}
use Rattle.cat_lower.specs.Scopes.{outputs_code}
use Rattle.cat_lower.proofs.scopes.put_outputs.Given as goal

abbrev pub invariant-loop-number : goal.invariant-loop-number
invariant-loop-number l =
    (new : Growing) → Grown l.growing new (outputs_code l.number (drop l.number l.items))
    → Grown l.fn.growing new (outputs_code 0 l.items)
