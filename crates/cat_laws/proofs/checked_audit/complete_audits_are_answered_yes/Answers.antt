use Rattle.std.proofs.Common.{◌<◌, ◌^◌, ◌++◌, ◌∙◌, List, None, ℕ, length, ap, arith, subst, sym}
use Rattle.cat_audit.specs.declared.report.Verdict.{Verdict}
use Rattle.cat_audit.specs.ReportTexts.{report_text}
use Rattle.cat_cert.specs.ScopeTables.{IsOverScope}
use Rattle.cat_app.specs.Audits.{certificate_of}
use Rattle.cat_laws.proofs.Told.{ends_yes, named_body}
use Rattle.cat_laws.proofs.checked_audit.complete_audits_are_answered_yes.Goals as goal

pub returns : goal.returns
returns c audit source scope text words old check sink sunk ended is told ends =
    let program = c.args.program.now in
    let report = is.report in
    let within = named_body program.decls program.bodies program.scope_order check.scope scope
    c.programs_are_well_formed.ensures told.told.named in
    let named = c.accepted_programs_are_unbroken.ensures source.pieces program told.told.accepted in
    let written = c.what_an_audit_writes_is_certified.ensures scope is.most source.files report named within
    (omega (arith, is.most_is.few)) is.report_is.report_is is.complete in
    let text_is = is.text_is ∙ ap (λ (v : Verdict). report_text program.decls source.files is.most report.sections
    ++ certificate_of v report.tables report.trees) is.complete in
    let certified = subst (λ (t : List ℕ). IsOverScope program scope t None) (sym text_is) written in
    let few = told.extra_short in
    let short : length text < 2 ^ 64 = omega (arith, few) in
    ends_yes program scope text (c.certificates_of_version_2_are_answered_yes.ensures scope text short certified)
    sink sunk ended ends
