use Rattle.std.proofs.Common.{◌≡◌, ◌++◌, drop}
use Rattle.cat_except.specs.inside.Grouping.{groups_at}
use Rattle.cat_except.specs.inside.Linking.{targets_from}
use Rattle.cat_except.proofs.excepted.excepted_of.Given as goal

abbrev pub invariant-loop-list : goal.invariant-loop-list
invariant-loop-list l =
    l.excepted.items ++ targets_from (groups_at l.defs l.groups.lists.items)
    (groups_at l.defs (drop l.list-index l.groups.lists.items))
    ≡ targets_from (groups_at l.defs l.groups.lists.items) (groups_at l.defs l.groups.lists.items)
