-- The section of a scope.
use Rattle.std.specs.Prelude.{◌≡◌, ℕ, Bool, true, false, not, ◌||◌, if◌then◌else◌, List, [], ◌∷◌}
use Rattle.std.specs.List.{list_any}
use Rattle.cat_scope.specs.declared.programs.Program.{Program}
use Rattle.cat_scope.specs.Names.{has_none}
use Rattle.cat_guard.specs.declared.table.Table.{Table}
use Rattle.cat_guard.specs.declared.table.TableTarget.{TableTarget}
use Rattle.cat_audit.specs.declared.finding.Finding.TheVariants as finding
use Rattle.cat_audit.specs.declared.finding.Line.{Line}
use Rattle.cat_audit.specs.declared.finding.Line.TheVariants as line
use Rattle.cat_audit.specs.declared.finding.TargetLine.{TargetLine}
use Rattle.cat_audit.specs.Causes.{HasCause}
use Rattle.cat_audit.specs.Lines.{IsLineOf}
use Rattle.cat_audit.specs.declared.report.Verdict.{Verdict}
use Rattle.cat_audit.specs.declared.report.Verdict.TheVariants as verdict
use Rattle.cat_audit.specs.declared.report.NamedLine.{NamedLine}
use Rattle.cat_audit.specs.declared.report.CalledLine.{CalledLine}
use Rattle.cat_audit.specs.declared.report.Section.{Section}
use Rattle.cat_audit.specs.Called.{called_lines}

-- ---- verdicts

-- an input is found on which the rules fail
abbrev pub is_found : Line → Bool
is_found (line.Bad (finding.Found outcome input)) = true
is_found l = false

-- a fault hides a conflict or a gap
abbrev pub is_masked : Line → Bool
is_masked (line.Bad (finding.Masked kind pos input)) = true
is_masked l = false

-- too little is known of a target
abbrev pub is_undecided : Line → Bool
is_undecided (line.Bad (finding.Derived at input outcome)) = true
is_undecided line.Budget = true
is_undecided l = false

-- some line passes a test
abbrev pub any_line : (Line → Bool) → List NamedLine → Bool
any_line test lines = list_any (λ l. test l.line) lines

-- the verdict of a scope: Found or Masked where a target is, else Undecided where a target is or a called scope isn't
-- complete
abbrev pub verdict_of : List NamedLine → List CalledLine → Verdict
verdict_of lines called =
    if any_line is_found lines then verdict.Found else
    (if any_line is_masked lines then verdict.Masked else
    (if any_line is_undecided lines || not (has_none called) then verdict.Undecided else verdict.Complete))

-- ---- sections

-- each target has a line and a tree, and the line has its cause
abbrev pub AreLinesOf : Program → Table → ℕ → List TableTarget → List TargetLine → Type 0
AreLinesOf program table budget [] [] = Unit {0}
AreLinesOf program table budget [] (m ∷ made) = ⊥
AreLinesOf program table budget (t ∷ targets) [] = ⊥
AreLinesOf program table budget (t ∷ targets) (m ∷ made) =
    IsLineOf program table t budget m × HasCause program table t budget m.tree.nodes m.line
    × AreLinesOf program table budget targets made

-- the lines of targets, each with its name
abbrev pub named_lines : List TableTarget → List TargetLine → List NamedLine
named_lines [] made = []
named_lines (t ∷ targets) [] = []
named_lines (t ∷ targets) (m ∷ made) = record { name = t.name; line = m.line } ∷ named_lines targets made

-- the section of a table's scope, where called scopes have these verdicts: the lines of its targets, those of called
-- scopes that aren't complete, and the verdict that they have
pub record IsSection (program : Program) (budget : ℕ) (verdicts : ℕ → Verdict) (table : Table)
    (made : List TargetLine) (section : Section) : Type 0 where
  pub scope_is : section.scope ≡ table.scope
  pub made_are : AreLinesOf program table budget table.targets made
  pub lines_are : section.lines ≡ named_lines table.targets made
  pub called_are : section.called ≡ called_lines program verdicts table.scope
  pub verdict_is : section.verdict ≡ verdict_of section.lines section.called
