use Rattle.std.proofs.Common.{◌≡◌, ◌++◌, drop}
use Rattle.cat_except.specs.Faults.{groups_of_each}
use Rattle.cat_except.specs.inside.Finding.{groups_at_each, AreGroupsOfEach}
use Rattle.cat_except.specs.inside.Linked.{group_targets}
use Rattle.cat_except.proofs.groups_of_each.Given as goal

abbrev pub invariant-loop-target : goal.invariant-loop-target
invariant-loop-target l =
    record {
      targets : group_targets l.groups ++ drop l.target-index l.targets ≡ l.targets;
      groups : groups_at_each l.defs l.groups ++ groups_of_each l.defs (drop l.target-index l.targets)
          ≡ groups_of_each l.defs l.targets;
      known : AreGroupsOfEach l.defs l.groups;
    }
