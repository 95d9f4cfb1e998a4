use Rattle.cat_audit.proofs.FreeTables.{free_terms, no_function_targets}
use Rattle.cat_dead_report.proofs.PlainReportLemmas.{decided_targets}
use Rattle.cat_dead_report.proofs.plain_scopes.plain_scopes_have_decided_lines.Goals as goal

pub returns : goal.returns
returns c files scope budget report plain within is =
    decided_targets c.args.program.now is.table budget (free_terms c.args.program.now scope plain is.table is.table_is)
    is.table.targets is.lines (no_function_targets c.args.program.now scope plain is.table is.table_is)
    (within is.table is.table_is) is.are
