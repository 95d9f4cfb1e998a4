use Rattle.std.proofs.Common.{◌+◌, ◌*◌}
use Rattle.cat_guard.proofs.WholeLaws.{AreMade}
use Rattle.cat_guard.proofs.whole.+whole.Given as goal

abbrev pub decreases-whole_group : goal.decreases-whole_group
decreases-whole_group l = 2 * l.room

abbrev pub decreases-whole_groups : goal.decreases-whole_groups
decreases-whole_groups l = 2 * l.room + 1

abbrev pub invariant-whole_groups-loop-number : goal.invariant-whole_groups-loop-number
invariant-whole_groups-loop-number l = AreMade l.target l.room l.numbers l.number-index l.groups
