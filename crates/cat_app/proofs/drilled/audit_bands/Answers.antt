use Rattle.std.proofs.Common.{rules, ◌≡◌, FitsSigned, of_z, refl, to_z, to_z-of_z, w64}
use Rattle.cat_app.proofs.DrillReplies.{line_is}
use Rattle.cat_app.proofs.drilled.audit_bands.Goals as goal

pub returns : goal.returns
returns c =
    let fits : FitsSigned w64 c.args.sum = search rules in
    let back : to_z w64 (of_z w64 c.args.sum) ≡ c.args.sum = simp to_z-of_z refl in
    let report = c.in_ok-report.report in
    let leaves = c.in_ok-leaves.leaves in (
      refl,
      record {
        sum = c.args.sum;
        report = report;
        sum_is = c.requires.sum;
        report_is = c.in_ok-report.ensures;
        text_is = cc (
          c.in_ok-text.ensures.ok,
          back,
          c.in_ok-leaves.ensures,
          line_is c.args.bands c.args.sum leaves
              c.verdict_text-verdict.result.now c.last_verdict.result report.sections c.as_slice.result.now
              c.verdict_text-verdict.ensures c.last_verdict.ensures c.as_slice.ensures,
        );
      },
    )
