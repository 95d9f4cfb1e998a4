use Rattle.std.proofs.Common.{◌-◌}
use Rattle.cat_lower.specs.declared.growing.Growing.{Growing}
use Rattle.cat_lower.specs.Grown.{Grown}
use Rattle.cat_lower.specs.Pieces.{bind_all}
use Rattle.cat_lower.proofs.fields.put_binds.Given as goal

abbrev pub invariant-loop : goal.invariant-loop
invariant-loop l =
    (new : Growing) → Grown l.growing new (bind_all (l.count - l.counter)) → Grown l.fn.growing new (bind_all l.count)
