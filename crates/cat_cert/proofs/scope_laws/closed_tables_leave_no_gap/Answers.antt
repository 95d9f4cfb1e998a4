use Rattle.cat_audit_table.specs.AuditedTables.{scopes_of}
use Rattle.cat_cert.proofs.ClosedTables.{none_left}
use Rattle.cat_cert.proofs.scope_laws.closed_tables_leave_no_gap.Goals as goal

pub returns : goal.returns
returns c scope tables within are closed =
    none_left c.args.program.now scope tables are.tables_are closed
    (c.audited_scopes_have_what_they_call.ensures.closed scope (scopes_of tables) are.scopes_are)
    (c.audited_scopes_end_with_the_audited_one.ensures scope (scopes_of tables) within are.scopes_are)
    c.closed_trees_cover_each_valuation.ensures.cited c.audited_programs_have_no_gap.ensures
