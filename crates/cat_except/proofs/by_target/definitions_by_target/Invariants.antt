use Rattle.std.proofs.Common.{take}
use Rattle.cat_except.specs.Parted.{ArePartedBy}
use Rattle.cat_except.proofs.by_target.definitions_by_target.Given as goal

abbrev pub invariant-loop-number : goal.invariant-loop-number
invariant-loop-number l = ArePartedBy (take l.number l.defs) l.keys.keys l.lists.items
