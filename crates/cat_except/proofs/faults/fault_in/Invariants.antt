use Rattle.std.proofs.Common.{◌≡◌, drop}
use Rattle.cat_except.specs.Faults.{in_targets}
use Rattle.cat_except.specs.inside.Finding.{kind_of, first_of, groups_at_each}
use Rattle.cat_except.proofs.faults.fault_in.Given as goal

abbrev pub invariant-loop-groups : goal.invariant-loop-groups
invariant-loop-groups l =
    first_of (in_targets (kind_of l.kind) (groups_at_each l.defs (drop l.groups-index l.targets)))
    ≡ first_of (in_targets (kind_of l.kind) (groups_at_each l.defs l.targets))
