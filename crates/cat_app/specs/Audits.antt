-- The answer to one who asked for an audit.
use Rattle.std.specs.Prelude.{◌≡◌, ℕ, List, [], ◌++◌, map}
use Rattle.cat_io.specs.Shelf.{Shelved}
use Rattle.cat_value.specs.declared.decls.Decls.{Decls}
use Rattle.cat_scope.specs.declared.programs.Program.{Program}
use Rattle.cat_scope.specs.Names.{AllHave}
use Rattle.cat_guard.specs.declared.table.Table.{Table}
use Rattle.cat_guard.specs.declared.tree.CaseTree.{CaseTree}
use Rattle.cat_guard.specs.Trees.{tree_of}
use Rattle.cat_audit.specs.declared.report.Report.{Report}
use Rattle.cat_audit.specs.declared.report.Verdict.{Verdict}
use Rattle.cat_audit.specs.declared.report.Verdict.TheVariants as verdict
use Rattle.cat_audit.specs.Complete.{AreClosedTrees, HasNoGapWhereComplete, targets_in}
use Rattle.cat_audit_sound.specs.Audited.{HasNoGap}
use Rattle.cat_audit.specs.Reports.{IsReport, last_verdict}
use Rattle.cat_audit.specs.ReportTexts.{report_text}
use Rattle.cat_audit.specs.RunsAgain.{RunAgain}
use Rattle.cat_audit.specs.Decided.{EndsInNoFault, HasCellsWithin, IsDecided, IsUnderived, IsWholeVerdict}
use Rattle.cat_audit.specs.Plain.{IsPlain}
use Rattle.cat_cert.specs.declared.certificate.Version.TheVariants as version
use Rattle.cat_cert.specs.Certifiable.{shared_tree}
use Rattle.cat_cert.specs.Texts.{certificate_text}
use Rattle.cat_weave.specs.declared.source.Source.{Source}
use Rattle.cat_app.specs.Words.{Request, IsMost}
use Rattle.cat_app.specs.Asked.{IsAsked}
use Rattle.cat_app.specs.declared.request.Mode.TheVariants.{Audit}
use Rattle.cat_app.specs.declared.status.Status.{Status}
use Rattle.cat_app.specs.declared.status.Status.TheVariants as status

-- the status of a verdict
abbrev pub status_at : Verdict → Status
status_at verdict.Found = status.Found
status_at verdict.Masked = status.Unsettled
status_at verdict.Undecided = status.Unsettled
status_at verdict.Complete = status.Fine

-- the certificate of trees with their equal parts written once, where the last verdict is Complete
abbrev pub certificate_of : Verdict → List Table → List CaseTree → List ℕ
certificate_of verdict.Complete tables trees =
    certificate_text version.Two tables (map (λ t. shared_tree (tree_of t.nodes)) trees)
certificate_of v tables trees = []

-- what is written of a report: its text, and the certificate of its trees where its last verdict is Complete
abbrev pub audit_text : Decls → List (List ℕ) → ℕ → Report → List ℕ
audit_text ds files most report =
    report_text ds files most report.sections
    ++ certificate_of (last_verdict report.sections) report.tables report.trees

-- the report of a scope; where a section is Complete, no well-typed input of its scope ends in a conflict or a gap;
-- where the last one is, so is it of the scope that is audited, and the trees are closed ones, one for each target. No
-- line of a plain scope is Derived, and one whose targets have no more cells is decided
pub record HasReport (program : Program) (scope most : ℕ) (report : Report) : Type 0 where
  pub report_is : IsReport program scope most report
  pub no_gaps : AllHave (HasNoGapWhereComplete program) report.sections
  pub no_gap : last_verdict report.sections ≡ verdict.Complete → HasNoGap program scope
  pub closed : last_verdict report.sections ≡ verdict.Complete
      → AreClosedTrees most (targets_in report.tables) report.trees
  pub underived : IsPlain program scope → IsUnderived scope report
  pub decided : IsPlain program scope → HasCellsWithin program scope most → IsDecided scope report
  pub whole : IsPlain program scope → HasCellsWithin program scope most → EndsInNoFault program scope
      → IsWholeVerdict program scope (last_verdict report.sections)

-- of an audit: what it says of the scope. The text of each input that it shows is read as that input, which is well
-- typed, and a run on it comes to the outcome that stands beside it
pub record IsAudited (request : Request) (old new : Shelved) (ended : Status) (text : List ℕ) : Type 0 where
  pub source : Source
  pub program : Program
  pub scope : ℕ
  pub most : ℕ
  pub report : Report
  pub mode : request.mode ≡ Audit
  pub asked : IsAsked request old source program scope
  pub most_is : IsMost request.cases most
  pub report_is : HasReport program scope most report
  pub again : AllHave (RunAgain program) report.sections
  pub untouched : new ≡ old
  pub status : ended ≡ status_at (last_verdict report.sections)
  pub reply : text ≡ audit_text program.decls source.files most report
