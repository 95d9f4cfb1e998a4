-- What it means that an audit decides a scope whole.
use Rattle.std.specs.Prelude.{◌≡◌, ◌≤◌, ◌↔◌, ◌⊎◌, ℕ, IsTrue, [], ◌∷◌, Option, None, Some}
use Rattle.cat_value.specs.declared.outcome.Outcome.{Outcome}
use Rattle.cat_value.specs.declared.outcome.Outcome.TheVariants as outcome
use Rattle.cat_value.specs.Inputs.{IsWellTyped}
use Rattle.cat_scope.specs.declared.programs.Program.{Program}
use Rattle.cat_scope.specs.Calls.{Items}
use Rattle.cat_scope.specs.Names.{AllHave}
use Rattle.cat_scope.specs.Outcomes.{scope_outcome}
use Rattle.cat_guard.specs.declared.table.Table.{Table}
use Rattle.cat_guard.specs.Tables.{TablesScope}
use Rattle.cat_search.specs.Cells.{cells}
use Rattle.cat_audit.specs.declared.finding.Finding.TheVariants as finding
use Rattle.cat_audit.specs.declared.finding.Line.{Line}
use Rattle.cat_audit.specs.declared.finding.Line.TheVariants as line
use Rattle.cat_audit.specs.Causes.{is_failure}
use Rattle.cat_audit.specs.declared.report.Report.{Report}
use Rattle.cat_audit.specs.declared.report.Section.{Section}
use Rattle.cat_audit.specs.declared.report.Verdict.{Verdict}
use Rattle.cat_audit.specs.declared.report.Verdict.TheVariants as verdict
use Rattle.cat_audit_sound.specs.Audited.{HasNoGap}

-- ---- premises

-- the cuts of each target of a scope make at most so many cells
abbrev pub HasCellsWithin : Program → ℕ → ℕ → Type 0
HasCellsWithin program scope most = (table : Table) → TablesScope program scope table
    → AllHave (λ t. cells table.terms table.atoms t ≤ most) table.targets

-- an outcome that is no fault
abbrev pub IsNoFault : Option Outcome → Type 0
IsNoFault None = Unit {0}
IsNoFault (Some (outcome.Value outputs)) = Unit {0}
IsNoFault (Some (outcome.Conflict target positions)) = Unit {0}
IsNoFault (Some (outcome.NoValue target pos)) = Unit {0}
IsNoFault (Some (outcome.Fault kind pos)) = ⊥

-- no well-typed input of a scope ends in a fault
abbrev pub EndsInNoFault : Program → ℕ → Type 0
EndsInNoFault program scope =
    (input : Items) → IsWellTyped program.decls scope input → IsNoFault (scope_outcome program scope input)

-- ---- what is decided

-- a line is Covered, Found or Masked
abbrev pub IsDecidedLine : Line → Type 0
IsDecidedLine line.Covered = Unit {0}
IsDecidedLine line.Budget = ⊥
IsDecidedLine (line.Bad (finding.Found o input)) = Unit {0}
IsDecidedLine (line.Bad (finding.Masked kind pos input)) = Unit {0}
IsDecidedLine (line.Bad (finding.Derived at input o)) = ⊥

-- a line isn't Derived
abbrev pub IsUnderivedLine : Line → Type 0
IsUnderivedLine line.Covered = Unit {0}
IsUnderivedLine line.Budget = Unit {0}
IsUnderivedLine (line.Bad (finding.Found o input)) = Unit {0}
IsUnderivedLine (line.Bad (finding.Masked kind pos input)) = Unit {0}
IsUnderivedLine (line.Bad (finding.Derived at input o)) = ⊥

-- a report is of one scope alone, and no line of it is Derived: of a called scope there is none
pub record IsUnderived (scope : ℕ) (report : Report) : Type 0 where
  pub section : Section
  pub sections_are : report.sections ≡ section ∷ []
  pub scope_is : section.scope ≡ scope
  pub lines : AllHave (λ l. IsUnderivedLine l.line) section.lines
  pub called : section.called ≡ []

-- a report is of one scope alone, and each line of it is Covered, Found or Masked: of a called scope there is none
pub record IsDecided (scope : ℕ) (report : Report) : Type 0 where
  pub section : Section
  pub sections_are : report.sections ≡ section ∷ []
  pub scope_is : section.scope ≡ scope
  pub lines : AllHave (λ l. IsDecidedLine l.line) section.lines
  pub called : section.called ≡ []

-- a well-typed input of a scope ends in a conflict or a gap
pub record HasGap (program : Program) (scope : ℕ) : Type 0 where
  pub input : Items
  pub typed : IsWellTyped program.decls scope input
  pub ending : Outcome
  pub ends : scope_outcome program scope input ≡ Some ending
  pub failure : IsTrue (is_failure ending)

-- a verdict is Complete or Found: Complete exactly where no well-typed input of the scope ends in a conflict or a gap,
-- and Found exactly where one does
pub record IsWholeVerdict (program : Program) (scope : ℕ) (v : Verdict) : Type 0 where
  pub complete_or_found : (v ≡ verdict.Complete) ⊎ (v ≡ verdict.Found)
  pub complete : (v ≡ verdict.Complete) ↔ HasNoGap program scope
  pub found : (v ≡ verdict.Found) ↔ HasGap program scope
