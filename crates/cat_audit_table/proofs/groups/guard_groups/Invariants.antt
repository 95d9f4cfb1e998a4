use Rattle.std.proofs.Common.{◌≡◌, take, map}
use Rattle.cat_audit_table.specs.inside.Placed.{group_by_places}
use Rattle.cat_audit_table.proofs.groups.guard_groups.Given as goal

abbrev pub invariant-loop-group : goal.invariant-loop-group
invariant-loop-group l = l.made ≡ map (group_by_places l.numbers) (take l.group-index l.groups)
