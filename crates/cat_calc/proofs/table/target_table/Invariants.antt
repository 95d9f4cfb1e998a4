use Rattle.std.proofs.Common.{take}
use Rattle.cat_calc.specs.inside.Tabled.{IsTableOf}
use Rattle.cat_calc.proofs.table.target_table.Given as goal

abbrev pub invariant-loop-index : goal.invariant-loop-index
invariant-loop-index l = IsTableOf (take l.index l.targets) l.table
