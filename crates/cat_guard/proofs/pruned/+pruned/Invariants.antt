use Rattle.std.proofs.Common.{◌++◌, drop}
use Rattle.cat_guard.specs.Judged.{answers_in}
use Rattle.cat_guard.specs.inside.Pruned.{GroupsStandFor}
use Rattle.cat_guard.proofs.pruned.+pruned.Given as goal

-- what is left and what follows stand for all
abbrev pub invariant-pruned_groups-loop-group : goal.invariant-pruned_groups-loop-group
invariant-pruned_groups-loop-group l =
    GroupsStandFor l.target (answers_in l.atoms l.region) l.groups (l.left ++ drop l.group-index l.groups)
