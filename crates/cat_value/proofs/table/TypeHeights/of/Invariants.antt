use Rattle.cat_value.specs.Table.{AreHeightsTo}
use Rattle.cat_value.proofs.table.TypeHeights.of.Given as goal

abbrev pub invariant-loop-depth : goal.invariant-loop-depth
invariant-loop-depth l = AreHeightsTo l.structures l.enumerations l.depth l.heights
