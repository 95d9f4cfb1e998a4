use Rattle.cat_laws.proofs.Written.{report_certified}
use Rattle.cat_laws.proofs.recheck.what_an_audit_writes_is_certified.Goals as goal

pub returns : goal.returns
returns c scope most files report named within few is last =
    let program = c.args.program.now in
    let complete = c.complete_audits_leave_no_gap.ensures.complete scope most report within is last in
    report_certified c.shared_trees_are_certificates.ensures.certificate c.shared_trees_are_certificates.ensures.stand
    c.written_certificates_are_read.ensures program named scope most few files report is complete
    (c.complete_audits_have_closed_trees.ensures scope most report within is last)
