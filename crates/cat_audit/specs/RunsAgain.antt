-- That a run on an input that a report shows comes to the outcome that stands beside it.
use Rattle.std.specs.Prelude.{◌≡◌, ℕ, List, Option, Some, Ok}
use Rattle.cat_value.specs.declared.value.Value.{Value}
use Rattle.cat_value.specs.declared.outcome.Outcome.{Outcome}
use Rattle.cat_value.specs.declared.outcome.Outcome.TheVariants as outcome
use Rattle.cat_value.specs.declared.decls.Decls.{Decls}
use Rattle.cat_value.specs.Inputs.{IsWellTyped}
use Rattle.cat_scope.specs.declared.programs.Program.{Program}
use Rattle.cat_scope.specs.Names.{AllHave}
use Rattle.cat_scope.specs.Outcomes.{scope_outcome}
use Rattle.cat_json.specs.InputsRead.{input_read}
use Rattle.cat_answer.specs.ReadBack.{IsInputText}
use Rattle.cat_audit.specs.declared.finding.Finding.{Finding}
use Rattle.cat_audit.specs.declared.finding.Finding.TheVariants as finding
use Rattle.cat_audit.specs.declared.finding.Line.{Line}
use Rattle.cat_audit.specs.declared.finding.Line.TheVariants as line
use Rattle.cat_audit.specs.declared.report.NamedLine.{NamedLine}
use Rattle.cat_audit.specs.declared.report.Section.{Section}
use Rattle.cat_audit.specs.ReportLines.{input_of}

-- this holds of the input that a finding shows, and of the outcome that stands beside it
abbrev pub OfFinding : (List (Option Value) → Outcome → Type 0) → Finding → Type 0
OfFinding Holds (finding.Found o input) = Holds input o
OfFinding Holds (finding.Masked kind pos input) = Holds input (outcome.Fault kind pos)
OfFinding Holds (finding.Derived at input o) = Holds input o

-- of those that a line shows, where it shows one
abbrev pub OfLine : (List (Option Value) → Outcome → Type 0) → Line → Type 0
OfLine Holds line.Covered = Unit {0}
OfLine Holds line.Budget = Unit {0}
OfLine Holds (line.Bad f) = OfFinding Holds f

-- of those that each of some lines shows
abbrev pub OfLines : (List (Option Value) → Outcome → Type 0) → List NamedLine → Type 0
OfLines Holds lines = AllHave (λ l. OfLine Holds l.line) lines

-- the text of an input is read as that input, where each name stands for one thing and it is a well-typed one
unfoldable pub IsReadBack : Decls → ℕ → List (Option Value) → Outcome → Type 0
IsReadBack ds scope input o = IsInputText ds scope input (input_of ds scope input)

-- so is each that a section shows
abbrev pub AreReadBack : Decls → Section → Type 0
AreReadBack ds s = OfLines (IsReadBack ds s.scope) s.lines

-- the text of an input is read as that input, which is well typed, and on which the scope comes to this outcome
pub record RunsAgain (program : Program) (scope : ℕ) (input : List (Option Value)) (o : Outcome) : Type 0 where
  pub read : input_read program.decls scope (input_of program.decls scope input) ≡ Ok input
  pub typed : IsWellTyped program.decls scope input
  pub comes_to : scope_outcome program scope input ≡ Some o

-- so it is with each that a section shows
abbrev pub RunAgain : Program → Section → Type 0
RunAgain program s = OfLines (RunsAgain program s.scope) s.lines
