-- How a table ends.
use Rattle.std.specs.Prelude.{◌≡◌, ℕ, Bool, IsTrue, List, ⊤, codes}
use Rattle.std.specs.Io.KnownBytes.{Appends}
use Rattle.cat_io.specs.Shelf.{Shelved}
use Rattle.cat_io.specs.Sink.{Sunk}
use Rattle.cat_scope.specs.declared.programs.Program.{Program}
use Rattle.cat_weave.specs.declared.source.Source.{Source}
use Rattle.cat_app.specs.Modes.{shows_tables, wanted_by}
use Rattle.cat_app.specs.Words.{IsMost, Request}
use Rattle.cat_app.specs.Lines.{line}
use Rattle.cat_app.specs.Complete.{IsToldScope}
use Rattle.cat_app.specs.TargetTables.{HasNoTarget, HasTables, status_of_tables}
use Rattle.cat_app.specs.declared.request.Mode.TheVariants.{OneTable}
use Rattle.cat_app.specs.declared.status.Status.{Status}
use Rattle.cat_app.specs.declared.status.Status.TheVariants.{Fine, Memory, ReadFault, Unsettled, Usage, WriteFault}

-- the words ask for tables of a scope of a source that is accepted, over contents that the shelf tells
pub record IsToldTable (words : List (List ℕ)) (old : Shelved) (request : Request) (source : Source) (program : Program)
    (scope : ℕ) : Type 0 where
  pub told : IsToldScope words old request source program scope
  pub mode : IsTrue (shows_tables request.mode)

-- the tables of the targets that are wanted are written whole, with their status
pub record WritesTables (sink sunk : Sunk) (request : Request) (source : Source) (program : Program) (scope : ℕ)
    (ended : Status) : Type 0 where
  pub most : ℕ
  pub spent : Bool
  pub text : List ℕ
  pub most_is : IsMost request.cases most
  pub tables : HasTables program scope most source.files (wanted_by request.mode request.extra) spent text
  pub status : ended ≡ status_of_tables spent
  pub written : Appends sink.taken sunk.taken text

-- it is written that the scope has no target of the name that is asked for
pub record WritesNoTarget (sink sunk : Sunk) (request : Request) (program : Program) (scope : ℕ) : Type 0 where
  pub mode : request.mode ≡ OneTable
  pub none : HasNoTarget program scope request.extra
  pub written : Appends sink.taken sunk.taken (line (codes "no such target ") request.extra)

-- tables are written, or that there is no such target; else the shelf or the sink failed, or memory ran out
abbrev pub EndsTable : Sunk → Sunk → Request → Source → Program → ℕ → Status → Type 0
EndsTable sink sunk request source program scope ReadFault = ⊤
EndsTable sink sunk request source program scope WriteFault = ⊤
EndsTable sink sunk request source program scope Memory = ⊤
EndsTable sink sunk request source program scope Usage = WritesNoTarget sink sunk request program scope
EndsTable sink sunk request source program scope status = WritesTables sink sunk request source program scope status
