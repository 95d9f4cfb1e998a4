use Rattle.std.proofs.Common.{take}
use Rattle.cat_declare.specs.inside.Naming.{AreItemTables}
use Rattle.cat_declare.proofs.blocks.item_tables.Given as goal

abbrev pub invariant-loop-scope : goal.invariant-loop-scope
invariant-loop-scope l = AreItemTables (take l.scope-index l.scopes) l.tables
