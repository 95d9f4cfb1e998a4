-- What an audit of a complete scope writes, and how a check of it ends.
use Rattle.std.specs.Prelude.{◌≡◌, ℕ, List, [], ⊤, codes}
use Rattle.std.specs.Io.KnownBytes.{Appends}
use Rattle.cat_io.specs.Sink.{Sunk}
use Rattle.cat_scope.specs.declared.programs.Program.{Program}
use Rattle.cat_weave.specs.declared.source.Source.{Source}
use Rattle.cat_audit.specs.declared.report.Report.{Report}
use Rattle.cat_audit.specs.declared.report.Verdict.TheVariants.{Complete}
use Rattle.cat_audit.specs.Reports.{last_verdict}
use Rattle.cat_app.specs.Words.{Request, IsMost}
use Rattle.cat_app.specs.Lines.{line}
use Rattle.cat_app.specs.Audits.{HasReport, audit_text}
use Rattle.cat_app.specs.declared.status.Status.{Status}
use Rattle.cat_app.specs.declared.status.Status.TheVariants.{Fine, Memory, ReadFault, WriteFault}

-- a text is what an audit of a scope writes whose report is complete
pub record IsCompleteAudit (request : Request) (source : Source) (program : Program) (scope : ℕ) (text : List ℕ)
    : Type 0 where
  pub most : ℕ
  pub report : Report
  pub most_is : IsMost request.cases most
  pub report_is : HasReport program scope most report
  pub complete : last_verdict report.sections ≡ Complete
  pub text_is : text ≡ audit_text program.decls source.files most report

-- the line `Yes` is written and nothing else; or the shelf or the sink failed, or memory ran out
abbrev pub EndsYes : Sunk → Sunk → Status → Type 0
EndsYes sink sunk ReadFault = ⊤
EndsYes sink sunk WriteFault = ⊤
EndsYes sink sunk Memory = ⊤
EndsYes sink sunk Fine = Appends sink.taken sunk.taken (line (codes "Yes") [])
EndsYes sink sunk status = ⊥
