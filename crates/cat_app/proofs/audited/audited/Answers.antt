use Rattle.std.proofs.Common.{◌≡◌, rules}
use Rattle.cat_audit.specs.declared.report.Verdict.TheVariants.{Complete}
use Rattle.cat_audit.specs.Reports.{last_verdict}
use Rattle.cat_app.proofs.audited.audited.Goals as goal

pub text_of-requires-clause-report : goal.text_of-requires-clause-report
text_of-requires-clause-report c = (c.args.scope, c.in_ok-report.ensures.report_is)

pub certificate_of-requires : goal.certificate_of-requires
certificate_of-requires c complete =
    let last : last_verdict c.in_ok-report.report.sections ≡ Complete = search rules in
    (c.args.most, c.in_ok-report.ensures.closed last)
