use Rattle.std.proofs.Common.{drop, length}
use Rattle.cat_lower.specs.declared.growing.Growing.{Growing}
use Rattle.cat_lower.specs.Grown.{Grown}
use Rattle.cat_lower.proofs.Picking.{picked_at}
use Rattle.cat_lower.proofs.fields.put_picked.Given as goal

abbrev pub invariant-loop-place : goal.invariant-loop-place
invariant-loop-place l =
    (new : Growing) → Grown l.growing new (picked_at l.local (length l.fields) (drop l.place-index l.place-items))
    → Grown l.fn.growing new (picked_at l.local (length l.fields) l.place-items)
