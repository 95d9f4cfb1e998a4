use Rattle.std.proofs.Common.{◌≡◌, ◌<◌, ◌∙◌, List, length, subst, sym, ap}
use Rattle.cat_value.specs.declared.decls.Decls.{Decls}
use Rattle.cat_scope.specs.Names.{AllHave}
use Rattle.cat_audit.specs.declared.report.Section.{Section}
use Rattle.cat_audit.specs.ReportTexts.{report_text}
use Rattle.cat_audit.specs.RunsAgain.{AreReadBack}
use Rattle.cat_app.proofs.Replies.{if_ok}
use Rattle.cat_app.proofs.audited.text_of.Goals as goal

pub report_text-requires : goal.report_text-requires
report_text-requires c =
    let report = c.args.report.now in
    subst (λ (ss : List Section). AllHave (λ s. s.scope < length c.decls-decls.result.now.scopes) ss)
    (sym c.as_slice-sections.ensures)
    (subst (λ (ds : Decls). AllHave (λ s. s.scope < length ds.scopes) report.sections) (sym c.decls-decls.ensures)
    (c.reports_are_of_declared_scopes.ensures c.requires.report.0 c.args.most report c.requires.report.1))

pub returns-clause-text : goal.returns-clause-text
returns-clause-text c =
    let same : c.from.result ≡ c.args.most = cc (c.from.ensures) in
    if_ok c.report_text.result c.report_text.ensures.text (λ text is.
    is ∙ (ap (λ (ds : Decls). report_text ds c.args.source.now.files c.from.result c.as_slice-sections.result.now)
    c.decls-decls.ensures
    ∙ (ap (λ n. report_text c.args.built.now.program.decls c.args.source.now.files n
    c.as_slice-sections.result.now) same
    ∙ ap (λ (ss : List Section). report_text c.args.built.now.program.decls c.args.source.now.files c.args.most ss)
    c.as_slice-sections.ensures)))

pub returns-clause-again : goal.returns-clause-again
returns-clause-again c =
    let program = c.args.built.now.program in
    let report = c.args.report.now in
    let distinct = c.accepted_programs_have_distinct_names.ensures c.args.source.now.pieces program
    c.requires.built.accepted in
    if_ok c.report_text.result c.report_text.ensures.back (λ text back.
    c.inputs_in_reports_run_again.ensures c.requires.report.0 c.args.most report distinct c.requires.report.1
    (subst (λ (ss : List Section). AllHave (AreReadBack program.decls) ss) c.as_slice-sections.ensures
    (subst (λ (ds : Decls). AllHave (AreReadBack ds) c.as_slice-sections.result.now) c.decls-decls.ensures back)))
