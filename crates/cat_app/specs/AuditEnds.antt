-- How an audit ends.
use Rattle.std.specs.Prelude.{◌≡◌, ℕ, List, ⊤}
use Rattle.std.specs.Io.KnownBytes.{Appends}
use Rattle.cat_io.specs.Shelf.{Shelved}
use Rattle.cat_io.specs.Sink.{Sunk}
use Rattle.cat_scope.specs.declared.programs.Program.{Program}
use Rattle.cat_scope.specs.Names.{AllHave}
use Rattle.cat_audit.specs.declared.report.Report.{Report}
use Rattle.cat_audit.specs.declared.report.Verdict.TheVariants.{Complete}
use Rattle.cat_audit_sound.specs.Audited.{HasNoGap}
use Rattle.cat_audit.specs.Reports.{last_verdict}
use Rattle.cat_audit.specs.RunsAgain.{RunAgain}
use Rattle.cat_weave.specs.declared.source.Source.{Source}
use Rattle.cat_app.specs.Words.{Request, IsMost}
use Rattle.cat_app.specs.Audits.{HasReport, audit_text, status_at}
use Rattle.cat_app.specs.Complete.{IsToldScope}
use Rattle.cat_app.specs.declared.request.Mode.TheVariants.{Audit}
use Rattle.cat_app.specs.declared.status.Status.{Status}
use Rattle.cat_app.specs.declared.status.Status.TheVariants.{Fine, ReadFault, WriteFault, Memory}

-- the words ask for an audit of a scope of a source that is accepted, over contents that the shelf tells
pub record IsToldAudit (words : List (List ℕ)) (old : Shelved) (request : Request) (source : Source) (program : Program)
    (scope : ℕ) : Type 0 where
  pub told : IsToldScope words old request source program scope
  pub mode : request.mode ≡ Audit

-- the verdict of a report is Complete, and no well-typed input of the scope ends in a conflict or a gap
abbrev pub IsComplete : Program → ℕ → Report → Type 0
IsComplete program scope report = (last_verdict report.sections ≡ Complete) × HasNoGap program scope

-- a report of the scope is written whole, with its status; `Fine` comes of a complete one alone. The text of each input
-- that it shows is read as that input, which is well typed, and a run on it comes to the outcome that stands beside it
pub record WritesReport (sink sunk : Sunk) (request : Request) (source : Source) (program : Program) (scope : ℕ)
    (ended : Status) : Type 0 where
  pub most : ℕ
  pub report : Report
  pub most_is : IsMost request.cases most
  pub report_is : HasReport program scope most report
  pub again : AllHave (RunAgain program) report.sections
  pub status : ended ≡ status_at (last_verdict report.sections)
  pub written : Appends sink.taken sunk.taken (audit_text program.decls source.files most report)
  pub complete : ended ≡ Fine → IsComplete program scope report

-- a report is written; else the shelf or the sink failed, or memory ran out
abbrev pub EndsAudit : Sunk → Sunk → Request → Source → Program → ℕ → Status → Type 0
EndsAudit sink sunk request source program scope ReadFault = ⊤
EndsAudit sink sunk request source program scope WriteFault = ⊤
EndsAudit sink sunk request source program scope Memory = ⊤
EndsAudit sink sunk request source program scope status = WritesReport sink sunk request source program scope status
