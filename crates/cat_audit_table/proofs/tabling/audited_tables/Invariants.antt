use Rattle.std.proofs.Common.{drop}
use Rattle.cat_audit_table.proofs.TableLemmas.{AreTablesTo}
use Rattle.cat_audit_table.proofs.tabling.audited_tables.Given as goal

abbrev pub invariant-loop-number : goal.invariant-loop-number
invariant-loop-number l = AreTablesTo l.program l.tables (drop l.number-index l.number-items) l.number-items
