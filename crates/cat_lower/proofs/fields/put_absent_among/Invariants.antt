use Rattle.std.proofs.Common.{drop, map}
use Rattle.cat_lower.specs.declared.growing.Growing.{Growing}
use Rattle.cat_lower.specs.Grown.{Grown}
use Rattle.cat_lower.specs.Pieces.{pass_absent}
use Rattle.cat_lower.proofs.fields.put_absent_among.Given as goal

abbrev pub invariant-loop-number : goal.invariant-loop-number
invariant-loop-number l =
    (new : Growing) → Grown l.growing new (pass_absent l.number (map (λ f. f.field) l.fields) (drop l.number l.items))
    → Grown l.fn.growing new (pass_absent 0 (map (λ f. f.field) l.fields) l.items)
