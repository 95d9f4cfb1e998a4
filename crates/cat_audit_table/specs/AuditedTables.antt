-- The tables of an audit.
use Rattle.std.specs.Prelude.{◌<◌, ◌≤◌, ℕ, List, map, length}
use Rattle.cat_pos.specs.declared.limits.TheConstants.{ENTRIES_BOUND}
use Rattle.cat_value.specs.Declarations.{most_cases}
use Rattle.cat_scope.specs.declared.programs.Program.{Program}
use Rattle.cat_scope.specs.Names.{AllHave}
use Rattle.cat_guard.specs.declared.table.Table.{Table}
use Rattle.cat_guard.specs.Tables.{TablesScope}
use Rattle.cat_depend.specs.Reached.{AreReachedFrom}

-- a program keeps the counts of definitions and of cases, as each accepted one does
pub record IsCounted (program : Program) : Type 0 where
  pub definitions : AllHave (λ body. length body.defs < ENTRIES_BOUND) program.bodies
  pub cases : AllHave (λ e. length e.cases ≤ most_cases) program.decls.enumerations

-- the scopes of tables
abbrev pub scopes_of : List Table → List ℕ
scopes_of tables = map (λ t. t.scope) tables

-- the tables of an audit: those of the scopes that the audited one calls, directly or not, and of itself
pub record AreTablesOf (program : Program) (scope : ℕ) (tables : List Table) : Type 0 where
  pub scopes_are : AreReachedFrom program scope (scopes_of tables)
  pub tables_are : AllHave (λ t. TablesScope program t.scope t) tables
