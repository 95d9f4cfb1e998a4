-- What is said of decision tables.
use Rattle.std.specs.Prelude.{◌⊎◌, ℕ, Bool, List, Option, Some, codes, string_bytes}
use Rattle.cat_value.specs.declared.decls.Decls.{Decls}
use Rattle.cat_scope.specs.declared.programs.Program.{Program}
use Rattle.cat_guard.specs.declared.table.Table.{Table}
use Rattle.cat_table.specs.Wanted.{AreTables, wanted_of}
use Rattle.cat_app.specs.Lines.{line}
use Rattle.cat_app.specs.TargetTables.{HasNoTarget, HasTables, status_of_tables}
use Rattle.cat_app.specs.declared.reply.Reply.{Reply}
use Rattle.cat_app.specs.declared.status.Status.TheVariants.{Usage}
use Rattle.cat_app.specs.inside.Says.{Says}

-- a reply tells the tables of those targets of a table that are wanted
pub record TellsTables (ds : Decls) (files : List (List ℕ)) (table : Table) (most : ℕ) (wanted : Option (List ℕ))
    (reply : Reply) : Type 0 where
  pub spent : Bool
  pub tables : AreTables ds files table most (wanted_of wanted table.targets) (string_bytes reply.text) spent
  pub says : Says (status_of_tables spent) (string_bytes reply.text) reply

-- a reply tells the tables of the targets of a scope that are wanted
pub record SaysTables (program : Program) (scope most : ℕ) (files : List (List ℕ)) (wanted : Option (List ℕ))
    (reply : Reply) : Type 0 where
  pub spent : Bool
  pub tables : HasTables program scope most files wanted spent (string_bytes reply.text)
  pub says : Says (status_of_tables spent) (string_bytes reply.text) reply

-- a reply tells that a scope has no such target
pub record SaysNoTarget (program : Program) (scope : ℕ) (name : List ℕ) (reply : Reply) : Type 0 where
  pub none : HasNoTarget program scope name
  pub says : Says Usage (line (codes "no such target ") name) reply

-- a reply tells the table of a target, or that there is no such target
abbrev pub MaySayOfTarget : Program → ℕ → ℕ → List (List ℕ) → List ℕ → Reply → Type 0
MaySayOfTarget program scope most files name reply =
    SaysTables program scope most files (Some name) reply ⊎ SaysNoTarget program scope name reply
