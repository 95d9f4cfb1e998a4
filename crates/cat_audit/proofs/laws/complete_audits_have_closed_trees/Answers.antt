use Rattle.cat_audit.proofs.CompleteLemmas.{report_trees}
use Rattle.cat_audit.proofs.laws.complete_audits_have_closed_trees.Goals as goal

pub returns : goal.returns
returns c scope budget report within is last =
    report_trees c.args.program.now scope budget report is
    (c.complete_audits_leave_no_gap.ensures.complete scope budget report within is last)
