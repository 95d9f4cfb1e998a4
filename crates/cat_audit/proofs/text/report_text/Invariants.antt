use Rattle.std.proofs.Common.{◌≡◌, ◌++◌, drop, string_bytes}
use Rattle.cat_scope.specs.Names.{AllHave}
use Rattle.cat_audit.specs.ReportTexts.{report_text}
use Rattle.cat_audit.specs.RunsAgain.{AreReadBack}
use Rattle.cat_audit.proofs.BackLemmas.{Leads}
use Rattle.cat_audit.proofs.text.report_text.Given as goal

abbrev pub invariant-loop-section : goal.invariant-loop-section
invariant-loop-section l =
    (string_bytes l.text ++ report_text l.decls l.files l.budget (drop l.section-index l.sections)
    ≡ report_text l.decls l.files l.budget l.sections)
    × Leads (AllHave (AreReadBack l.decls)) (drop l.section-index l.sections) l.sections
