-- The answers to one who asked for decision tables.
use Rattle.std.specs.Prelude.{◌≡◌, ℕ, Bool, true, false, IsTrue, List, Option, Some, None, IfSome, codes}
use Rattle.std.specs.List.{list_any}
use Rattle.cat_io.specs.Shelf.{Shelved}
use Rattle.cat_scope.specs.declared.programs.Program.{Program}
use Rattle.cat_guard.specs.declared.table.Table.{Table}
use Rattle.cat_guard.specs.Tables.{TablesScope}
use Rattle.cat_table.specs.Wanted.{AreTables, is_named, wanted_of}
use Rattle.cat_weave.specs.declared.source.Source.{Source}
use Rattle.cat_app.specs.Modes.{shows_tables, wanted_by}
use Rattle.cat_app.specs.Words.{IsMost, Request}
use Rattle.cat_app.specs.Lines.{line}
use Rattle.cat_app.specs.Asked.{IsAsked}
use Rattle.cat_app.specs.declared.request.Mode.TheVariants.{OneTable}
use Rattle.cat_app.specs.declared.status.Status.{Status}
use Rattle.cat_app.specs.declared.status.Status.TheVariants as status

-- the status of tables, of which the leaves of one were spent or not
abbrev pub status_of_tables : Bool → Status
status_of_tables true = status.Unsettled
status_of_tables false = status.Fine

-- a text is the tables of the targets of a scope that are wanted: of all, or of that of a name, of which there is one
pub record HasTables (program : Program) (scope most : ℕ) (files : List (List ℕ)) (wanted : Option (List ℕ))
    (spent : Bool) (text : List ℕ) : Type 0 where
  pub table : Table
  pub tabled : TablesScope program scope table
  pub there : IfSome wanted (λ name. IsTrue (list_any (is_named name) table.targets))
  pub tables : AreTables program.decls files table most (wanted_of wanted table.targets) text spent

-- no target of a scope has that name
pub record HasNoTarget (program : Program) (scope : ℕ) (name : List ℕ) : Type 0 where
  pub table : Table
  pub tabled : TablesScope program scope table
  pub none : list_any (is_named name) table.targets ≡ false

-- of a table: the decision tables of a scope's targets, or of one of them
pub record IsTabled (request : Request) (old new : Shelved) (ended : Status) (text : List ℕ) : Type 0 where
  pub source : Source
  pub program : Program
  pub scope : ℕ
  pub most : ℕ
  pub spent : Bool
  pub mode : IsTrue (shows_tables request.mode)
  pub asked : IsAsked request old source program scope
  pub most_is : IsMost request.cases most
  pub tables : HasTables program scope most source.files (wanted_by request.mode request.extra) spent text
  pub untouched : new ≡ old
  pub status : ended ≡ status_of_tables spent

-- of the table of a target: the scope has no target of that name
pub record IsNoTarget (request : Request) (old new : Shelved) (text : List ℕ) : Type 0 where
  pub source : Source
  pub program : Program
  pub scope : ℕ
  pub mode : request.mode ≡ OneTable
  pub asked : IsAsked request old source program scope
  pub none : HasNoTarget program scope request.extra
  pub untouched : new ≡ old
  pub reply : text ≡ line (codes "no such target ") request.extra
