use Rattle.std.proofs.Common.{take}
use Rattle.cat_check_names.specs.Table.{IsTableOf}
use Rattle.cat_check_names.proofs.named.table_of.Given as goal

abbrev pub invariant-loop-number : goal.invariant-loop-number
invariant-loop-number g l = IsTableOf g.T.Named.name_of (take l.number l.things) l.table
