use Rattle.std.proofs.Common.{◌≡◌, ◌++◌}
use Rattle.std.specs.Vec.Iter.{into_iter_items}
use Rattle.cat_except.proofs.EachTarget.{AreSoFar}
use Rattle.cat_except.proofs.linked.link_each.Given as goal

abbrev pub invariant-loop-groups : goal.invariant-loop-groups
invariant-loop-groups l =
    AreSoFar l.defs l.linked (into_iter_items l.groups-iterator) (into_iter_items l.initial.groups-iterator)
    × (l.yielded ++ into_iter_items l.groups-iterator ≡ into_iter_items l.initial.groups-iterator)
