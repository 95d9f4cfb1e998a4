use Rattle.cat_audit.proofs.BackLemmas.{report_again}
use Rattle.cat_audit.proofs.laws.inputs_in_reports_run_again.Goals as goal

pub returns : goal.returns
returns c scope budget report distinct is back =
    report_again c.args.program.now distinct scope budget report is back
