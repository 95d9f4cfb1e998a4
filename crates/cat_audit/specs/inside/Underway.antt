-- Sections that are made one after the other.
use Rattle.std.specs.Prelude.{◌≡◌, ℕ, List, ◌++◌, map, slice_get, unwrap_or}
use Rattle.cat_scope.specs.declared.programs.Program.{Program}
use Rattle.cat_guard.specs.declared.table.Table.{Table}
use Rattle.cat_guard.specs.declared.tree.CaseTree.{CaseTree}
use Rattle.cat_audit.specs.declared.finding.TargetLine.{TargetLine}
use Rattle.cat_audit.specs.declared.report.Verdict.{Verdict}
use Rattle.cat_audit.specs.declared.report.Verdict.TheVariants as verdict
use Rattle.cat_audit.specs.declared.report.NamedLine.{NamedLine}
use Rattle.cat_audit.specs.declared.report.Section.{Section}
use Rattle.cat_audit.specs.Sections.{AreLinesOf, IsSection, named_lines}

-- the verdict of a scope in a list that has one for each
abbrev pub verdict_at : List Verdict → ℕ → Verdict
verdict_at verdicts scope = unwrap_or (slice_get verdicts scope) verdict.Undecided

-- the lines of a table's targets, whose trees go behind others
pub record HasLines (program : Program) (table : Table) (budget : ℕ) (old new : List CaseTree)
    (lines : List NamedLine) : Type 0 where
  pub made : List TargetLine
  pub made_are : AreLinesOf program table budget table.targets made
  pub lines_are : lines ≡ named_lines table.targets made
  pub trees_are : new ≡ old ++ map (λ l. l.tree) made

-- the section of a table, whose trees go behind others
pub record MakesSection (program : Program) (budget : ℕ) (verdicts : List Verdict) (table : Table)
    (old new : List CaseTree) (section : Section) : Type 0 where
  pub made : List TargetLine
  pub section_is : IsSection program budget (verdict_at verdicts) table made section
  pub trees_are : new ≡ old ++ map (λ l. l.tree) made
