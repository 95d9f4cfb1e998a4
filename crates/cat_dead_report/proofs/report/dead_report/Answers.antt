use Rattle.std.proofs.Common.{◌∙◌, ℕ, List, sym, ap, subst}
use Rattle.cat_guard.specs.Tables.{TablesScope}
use Rattle.cat_cert.specs.Texts.{text_of}
use Rattle.cat_dead_report.specs.declared.line.TargetLines.{TargetLines}
use Rattle.cat_dead_report.specs.DeadReports.{report_lines, status_of}
use Rattle.cat_dead_report.proofs.report.dead_report.Goals as goal

pub report_lines-requires-clause-tabled : goal.report_lines-requires-clause-tabled
report_lines-requires-clause-tabled c =
    let tabled = c.in_ok-table.ensures in
    subst (λ (n : ℕ). TablesScope c.args.program.now n c.in_ok-table.table) (sym tabled.4.scope_is) tabled

pub report_text-requires-clause-tabled : goal.report_text-requires-clause-tabled
report_text-requires-clause-tabled c =
    let tabled = c.in_ok-table.ensures in
    subst (λ (n : ℕ). TablesScope c.args.program.now n c.in_ok-table.table) (sym tabled.4.scope_is) tabled

pub returns : goal.returns
returns c =
    let program = c.args.program.now in
    let files = c.args.files.now in
    let table = c.in_ok-table.table in
    let lines : List TargetLines = c.in_ok-lines.lines in
    record {
      table = table;
      table_is = c.in_ok-table.ensures;
      lines = lines;
      are = c.in_ok-lines.ensures;
      text = c.in_ok-text.ensures
          ∙ ap (λ (ls : List TargetLines). text_of (report_lines program.decls files c.args.budget table ls))
          c.as_slice-lines.ensures;
      status = c.status_of-status.ensures ∙ ap status_of c.as_slice-lines.ensures;
    }
