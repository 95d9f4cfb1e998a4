use Rattle.std.proofs.Common.{drop}
use Rattle.cat_lower.specs.declared.growing.Growing.{Growing}
use Rattle.cat_lower.specs.Grown.{Grown}
use Rattle.cat_lower.specs.Lowered.{assertions_code}
use Rattle.cat_lower.specs.Told.{standing_at}
use Rattle.cat_lower.proofs.scopes.emit_assertions.Given as goal

abbrev pub invariant-loop-assertion : goal.invariant-loop-assertion
invariant-loop-assertion l =
    (new : Growing) → Grown l.growing new (assertions_code (standing_at l.here) (drop l.assertion-index l.assertions))
    → Grown l.fn.growing new (assertions_code (standing_at l.here) l.assertions)
