-- How `dead` ends: with a report, or with what is said of a certificate.
use Rattle.std.specs.Prelude.{◌≡◌, ◌≤◌, ℕ, List, length, Some, string_bytes, ⊤}
use Rattle.std.specs.Io.KnownBytes.{Appends}
use Rattle.cat_pos.specs.Limits.{most_input_bytes}
use Rattle.cat_io.specs.Shelf.{Shelved}
use Rattle.cat_io.specs.Sink.{Sunk}
use Rattle.cat_scope.specs.declared.programs.Program.{Program}
use Rattle.cat_dead_report.specs.declared.report.DeadReport.{DeadReport}
use Rattle.cat_weave.specs.declared.source.Source.{Source}
use Rattle.cat_app.specs.Words.{IsMost, Request}
use Rattle.cat_app.specs.Complete.{IsToldScope, WritesText}
use Rattle.cat_app.specs.DeadChecks.{HasDead, HasNoDead}
use Rattle.cat_app.specs.Deads.{HasDeadReport, status_of_dead}
use Rattle.cat_app.specs.declared.request.Mode.TheVariants.{Dead, DeadCheck}
use Rattle.cat_app.specs.declared.status.Status.{Status}
use Rattle.cat_app.specs.declared.status.Status.TheVariants.{Certificate, Fine, Memory, ReadFault, WriteFault}

-- the words ask for a report on the definitions of a scope of a source that is accepted, over contents that the shelf
-- tells
pub record IsToldDead (words : List (List ℕ)) (old : Shelved) (request : Request) (source : Source) (program : Program)
    (scope : ℕ) : Type 0 where
  pub told : IsToldScope words old request source program scope
  pub mode : request.mode ≡ Dead

-- such a report is written whole, with its status
pub record WritesDead (sink sunk : Sunk) (request : Request) (source : Source) (program : Program) (scope : ℕ)
    (ended : Status) : Type 0 where
  pub most : ℕ
  pub report : DeadReport
  pub most_is : IsMost request.cases most
  pub report_is : HasDeadReport program source.files scope most report
  pub status : ended ≡ status_of_dead report.status
  pub written : Appends sink.taken sunk.taken (string_bytes report.text)

-- a report is written; else the shelf or the sink failed, or memory ran out
abbrev pub EndsDead : Sunk → Sunk → Request → Source → Program → ℕ → Status → Type 0
EndsDead sink sunk request source program scope ReadFault = ⊤
EndsDead sink sunk request source program scope WriteFault = ⊤
EndsDead sink sunk request source program scope Memory = ⊤
EndsDead sink sunk request source program scope status = WritesDead sink sunk request source program scope status

-- the words ask for a check of bytes that are to be a certificate of dead definitions of such a scope
pub record IsToldDeadCheck (words : List (List ℕ)) (old : Shelved) (request : Request) (source : Source)
    (program : Program) (scope : ℕ) (extra : List ℕ) : Type 0 where
  pub told : IsToldScope words old request source program scope
  pub mode : request.mode ≡ DeadCheck
  pub extra_told : old.content request.extra ≡ Some extra
  pub extra_short : length extra ≤ most_input_bytes

-- the dead definitions are written and a yes, or why not; else the shelf or the sink failed, or memory ran out
abbrev pub EndsDeadCheck : Sunk → Sunk → Source → Program → ℕ → List ℕ → Status → Type 0
EndsDeadCheck sink sunk source program scope extra ReadFault = ⊤
EndsDeadCheck sink sunk source program scope extra WriteFault = ⊤
EndsDeadCheck sink sunk source program scope extra Memory = ⊤
EndsDeadCheck sink sunk source program scope extra Fine =
    WritesText sink sunk (HasDead program scope source.files extra)
EndsDeadCheck sink sunk source program scope extra Certificate =
    WritesText sink sunk (HasNoDead program scope extra)
EndsDeadCheck sink sunk source program scope extra status = ⊥
