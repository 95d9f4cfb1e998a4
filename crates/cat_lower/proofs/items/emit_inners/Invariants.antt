use Rattle.std.proofs.Common.{drop}
use Rattle.cat_lower.specs.declared.growing.Growing.{Growing}
use Rattle.cat_lower.specs.Grown.{Grown}
use Rattle.cat_lower.specs.Scopes.{inner_codes}
use Rattle.cat_lower.specs.Told.{scope_standing}
use Rattle.cat_lower.proofs.items.emit_inners.Given as goal

abbrev pub invariant-loop-number : goal.invariant-loop-number
invariant-loop-number l =
    (new : Growing) → Grown l.growing new
    (inner_codes (scope_standing l.here l.scope) l.item l.decl l.number (drop l.number l.inners))
    → Grown l.fn.growing new (inner_codes (scope_standing l.here l.scope) l.item l.decl 0 l.inners)
