-- The answers to one who asked which definitions of a scope decide, and which never do.
use Rattle.std.specs.Prelude.{◌≡◌, ◌⊎◌, ℕ, nat_eq, List, string_bytes, if◌then◌else◌}
use Rattle.cat_io.specs.Shelf.{Shelved}
use Rattle.cat_scope.specs.declared.programs.Program.{Program}
use Rattle.cat_scope.specs.Names.{AllHave}
use Rattle.cat_audit.specs.Decided.{HasCellsWithin}
use Rattle.cat_audit.specs.Plain.{IsPlain}
use Rattle.cat_dead_report.specs.declared.report.DeadReport.{DeadReport}
use Rattle.cat_dead_report.specs.DeadReports.{IsDeadReport}
use Rattle.cat_dead_report.specs.PlainReports.{AreDecidedLines}
use Rattle.cat_weave.specs.declared.source.Source.{Source}
use Rattle.cat_app.specs.Words.{IsMost, Request}
use Rattle.cat_app.specs.Asked.{IsAsked}
use Rattle.cat_app.specs.DeadChecks.{HasDead, HasNoDead, IsDeadAnswer}
use Rattle.cat_app.specs.declared.request.Mode.TheVariants.{Dead}
use Rattle.cat_app.specs.declared.status.Status.{Status}
use Rattle.cat_app.specs.declared.status.Status.TheVariants as status

-- the status of a report: of 6, where a definition never decides; of 7, where it isn't known of one whether it does
abbrev pub status_of_dead : ℕ → Status
status_of_dead number =
    if nat_eq number 6 then status.Found else (if nat_eq number 7 then status.Unsettled else status.Fine)

-- a report on the definitions of a scope: each line has its cause, so that a definition of which it is written that it
-- never decides does so in no run on a well-typed input. In a plain scope no target of which has more cells than so
-- many, each line is `decides`, Masked or `never decides`
pub record HasDeadReport (program : Program) (files : List (List ℕ)) (scope most : ℕ) (report : DeadReport) : Type 0
  where
    pub report_is : IsDeadReport program files scope most report
    pub decided : IsPlain program scope → HasCellsWithin program scope most
        → AllHave AreDecidedLines report_is.lines

-- of `dead` without EXTRA: such a report
pub record IsReported (request : Request) (old new : Shelved) (ended : Status) (text : List ℕ) : Type 0 where
  pub source : Source
  pub program : Program
  pub scope : ℕ
  pub most : ℕ
  pub report : DeadReport
  pub mode : request.mode ≡ Dead
  pub asked : IsAsked request old source program scope
  pub most_is : IsMost request.cases most
  pub report_is : HasDeadReport program source.files scope most report
  pub untouched : new ≡ old
  pub status : ended ≡ status_of_dead report.status
  pub reply : text ≡ string_bytes report.text

-- the texts that may come with a status to one who asked so: such a report, or what is said of a certificate
abbrev pub TellsDead : Request → Shelved → Shelved → Status → List ℕ → Type 0
TellsDead request old new status.Fine text =
    IsReported request old new status.Fine text ⊎ IsDeadAnswer HasDead request old new text
TellsDead request old new status.Found text = IsReported request old new status.Found text
TellsDead request old new status.Unsettled text = IsReported request old new status.Unsettled text
TellsDead request old new status.Certificate text =
    IsDeadAnswer (λ program scope files. HasNoDead program scope) request old new text
TellsDead request old new ended text = ⊥
