use Rattle.std.proofs.Common.{◌≡◌, drop}
use Rattle.cat_except.specs.Faults.{in_groups}
use Rattle.cat_except.specs.inside.Grouping.{groups_at}
use Rattle.cat_except.specs.inside.Finding.{kind_of, first_of}
use Rattle.cat_except.proofs.faults.fault_in_target.Given as goal

abbrev pub invariant-loop-list : goal.invariant-loop-list
invariant-loop-list l =
    first_of (in_groups (kind_of l.kind) (groups_at l.defs l.groups.lists.items)
    (groups_at l.defs (drop l.list-index l.groups.lists.items)))
    ≡ first_of (in_groups (kind_of l.kind) (groups_at l.defs l.groups.lists.items)
    (groups_at l.defs l.groups.lists.items))
