use Rattle.std.proofs.Common.{◌≡◌, ◌++◌, drop}
use Rattle.cat_scope.specs.Groups.{roots_of, only}
use Rattle.cat_except.specs.Excepted.{listed}
use Rattle.cat_except.specs.inside.Grouping.{groups_at, roots_from}
use Rattle.cat_except.proofs.groups.only_root.Given as goal

abbrev pub invariant-loop-group : goal.invariant-loop-group
invariant-loop-group l =
    only (listed l.root ++ roots_from l.group (groups_at l.defs (drop l.group l.lists)))
    ≡ only (roots_of (groups_at l.defs l.lists))
