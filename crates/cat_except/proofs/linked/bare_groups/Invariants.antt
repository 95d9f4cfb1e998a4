use Rattle.std.proofs.Common.{◌≡◌, ◌++◌}
use Rattle.std.specs.Vec.Iter.{into_iter_items}
use Rattle.cat_except.specs.inside.Linked.{bare_groups}
use Rattle.cat_except.proofs.linked.bare_groups.Given as goal

abbrev pub invariant-loop-defs : goal.invariant-loop-defs
invariant-loop-defs l =
    (l.groups.items ++ bare_groups (into_iter_items l.defs-iterator) ≡ bare_groups
    (into_iter_items l.initial.defs-iterator))
    × (l.yielded ++ into_iter_items l.defs-iterator ≡ into_iter_items l.initial.defs-iterator)
