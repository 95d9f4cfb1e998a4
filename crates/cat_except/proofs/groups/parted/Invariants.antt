use Rattle.std.proofs.Common.{take}
use Rattle.cat_except.specs.inside.Grouping.{AreParted}
use Rattle.cat_except.proofs.groups.parted.Given as goal

abbrev pub invariant-loop-number : goal.invariant-loop-number
invariant-loop-number l = AreParted l.defs (take l.number-index l.numbers) l.keys.keys l.lists.items
