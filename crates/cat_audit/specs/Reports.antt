-- The report of an audit.
use Rattle.std.specs.Prelude.{◌≡◌, ℕ, List, [], ◌∷◌, ◌++◌, map}
use Rattle.cat_scope.specs.declared.programs.Program.{Program}
use Rattle.cat_guard.specs.declared.table.Table.{Table}
use Rattle.cat_guard.specs.declared.tree.CaseTree.{CaseTree}
use Rattle.cat_audit.specs.declared.finding.TargetLine.{TargetLine}
use Rattle.cat_audit.specs.declared.report.Verdict.{Verdict}
use Rattle.cat_audit.specs.declared.report.Verdict.TheVariants as verdict
use Rattle.cat_audit.specs.declared.report.Section.{Section}
use Rattle.cat_audit.specs.declared.report.Report.{Report}
use Rattle.cat_audit.specs.Called.{verdict_in}
use Rattle.cat_audit.specs.Sections.{IsSection}
use Rattle.cat_audit_table.specs.AuditedTables.{AreTablesOf}

-- a section for each table
abbrev pub AreSections : Program → ℕ → (ℕ → Verdict) → List Table → List (List TargetLine) → List Section → Type 0
AreSections program budget verdicts [] [] [] = Unit {0}
AreSections program budget verdicts [] [] (s ∷ sections) = ⊥
AreSections program budget verdicts [] (m ∷ made) sections = ⊥
AreSections program budget verdicts (t ∷ tables) [] sections = ⊥
AreSections program budget verdicts (t ∷ tables) (m ∷ made) [] = ⊥
AreSections program budget verdicts (t ∷ tables) (m ∷ made) (s ∷ sections) =
    IsSection program budget verdicts t m s × AreSections program budget verdicts tables made sections

-- the verdict of the last section
abbrev pub last_verdict : List Section → Verdict
last_verdict [] = verdict.Undecided
last_verdict (s ∷ []) = s.verdict
last_verdict (s ∷ t ∷ sections) = last_verdict (t ∷ sections)

-- the trees of all targets
abbrev pub trees_of : List (List TargetLine) → List CaseTree
trees_of [] = []
trees_of (m ∷ made) = map (λ l. l.tree) m ++ trees_of made

-- what an audit says of a scope: a section for each of its tables, in which a called scope has the verdict of its own
-- section; and the trees of all targets, by which the lines are told
pub record IsReport (program : Program) (scope budget : ℕ) (report : Report) : Type 0 where
  pub tables_are : AreTablesOf program scope report.tables
  pub made : List (List TargetLine)
  pub sections_are : AreSections program budget (verdict_in report.sections) report.tables made report.sections
  pub trees_are : report.trees ≡ trees_of made
