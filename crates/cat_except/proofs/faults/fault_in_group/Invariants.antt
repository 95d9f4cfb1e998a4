use Rattle.std.proofs.Common.{◌≡◌, drop}
use Rattle.cat_except.specs.Faults.{in_defs}
use Rattle.cat_except.specs.inside.Grouping.{defs_at, group_by, groups_at}
use Rattle.cat_except.specs.inside.Finding.{kind_of, first_of}
use Rattle.cat_except.proofs.faults.fault_in_group.Given as goal

abbrev pub invariant-loop-number : goal.invariant-loop-number
invariant-loop-number l =
    first_of (in_defs (kind_of l.kind) (groups_at l.defs l.groups.lists.items) (group_by (defs_at l.defs l.list))
    (defs_at l.defs (drop l.number-index l.list)))
    ≡ first_of (in_defs (kind_of l.kind) (groups_at l.defs l.groups.lists.items) (group_by (defs_at l.defs l.list))
    (defs_at l.defs l.list))
