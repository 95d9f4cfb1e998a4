use Rattle.std.proofs.Common.{take}
use Rattle.cat_audit.proofs.UnderwayLemmas.{IsUnderWay}
use Rattle.cat_audit.proofs.auditing.report_over.Given as goal

abbrev pub invariant-loop-table : goal.invariant-loop-table
invariant-loop-table l =
    IsUnderWay l.program l.budget (take l.table-index l.table-items) l.verdicts.items l.sections l.trees
