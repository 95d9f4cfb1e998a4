-- The text of a complete report is of lines with which no certificate begins.
use Rattle.std.proofs.Common.{◌≡◌, ℕ, IsTrue, List, [], ◌∷◌, ◌++◌, Option, Some, None, slice_get, codes}
use Rattle.std.proofs.Common.{refl, sym, ap, ◌∙◌, subst}
use Rattle.cat_value.specs.declared.decls.Decls.{Decls}
use Rattle.cat_value.specs.declared.declaration.Scope.{Scope}
use Rattle.cat_scope.specs.declared.programs.Program.{Program}
use Rattle.cat_scope.specs.Names.{AllHave}
use Rattle.cat_sound.proofs.Exported.{all_at}
use Rattle.cat_guard.specs.declared.table.Table.{Table}
use Rattle.cat_guard.specs.declared.table.TableTarget.{TableTarget}
use Rattle.cat_guard.specs.Tables.{TablesScope}
use Rattle.cat_audit.specs.declared.finding.Line.{Line}
use Rattle.cat_audit.specs.declared.finding.TargetLine.{TargetLine}
use Rattle.cat_audit.specs.declared.report.Verdict.{Verdict}
use Rattle.cat_audit.specs.declared.report.Verdict.TheVariants as verdict
use Rattle.cat_audit.specs.declared.report.NamedLine.{NamedLine}
use Rattle.cat_audit.specs.declared.report.CalledLine.{CalledLine}
use Rattle.cat_audit.specs.declared.report.Section.{Section}
use Rattle.cat_audit.specs.Called.{scope_name}
use Rattle.cat_audit.specs.Reports.{AreSections}
use Rattle.cat_audit.specs.Sections.{IsSection, named_lines}
use Rattle.cat_audit.proofs.VerdictLemmas.{IsCoveredLine, complete_lines}
use Rattle.cat_audit.specs.ReportLines.{first_line, last_line, said, target_line}
use Rattle.cat_audit.specs.ReportTexts.{called_lines, line_before, report_text, section_text, target_lines}
use Rattle.cat_laws.specs.Unbroken.{AreUnbroken, IsUnbroken, is_unbroken}
use Rattle.cat_laws.proofs.TableNames.{named_table, unbroken_both}
use Rattle.cat_laws.proofs.PassedLines.{IsPassed, passed_both, passed_line, passed_none, passed_of}

module _ (ds : Decls) (files : List (List ℕ)) (most : ℕ) where
  of_line : (scope : ℕ) (l : NamedLine) → IsTrue (is_unbroken l.name) → IsCoveredLine l
      → IsTrue (is_unbroken (target_line ds scope files most l))
  of_line scope l name covered =
      unbroken_both l.name (codes ": " ++ said ds scope files most l.line) name
      (ap (λ (x : Line). is_unbroken (codes ": " ++ said ds scope files most x)) covered)

  of_lines : (scope : ℕ) (lines : List NamedLine) → AllHave (λ l. IsTrue (is_unbroken l.name)) lines
      → AllHave IsCoveredLine lines → IsPassed (target_lines ds scope files most lines)
  of_lines scope [] named covered = passed_none
  of_lines scope (l ∷ lines) named covered =
      passed_line (target_line ds scope files most l) (target_lines ds scope files most lines)
      (passed_of (target_line ds scope files most l) (of_line scope l named.0 covered.0))
      (of_lines scope lines named.1 covered.1)

  of_called : (called : List CalledLine) → called ≡ [] → IsPassed (called_lines ds called)
  of_called called none = subst (λ (c : List CalledLine). IsPassed (called_lines ds c)) (sym none) passed_none

  of_name : (found : Option Scope) (n : ℕ) → AreUnbroken ds.scopes → slice_get ds.scopes n ≡ found
      → IsTrue (is_unbroken (scope_name found))
  of_name None n named at = refl
  of_name (Some s) n named at = (all_at IsUnbroken ds.scopes n s named at).0

  of_first : (scope : ℕ) → AreUnbroken ds.scopes → IsTrue (is_unbroken (first_line ds scope))
  of_first scope named =
      unbroken_both (codes "audit ") (scope_name (slice_get ds.scopes scope)) refl
      (of_name (slice_get ds.scopes scope) scope named refl)

  of_last : (v : Verdict) → v ≡ verdict.Complete → IsTrue (is_unbroken (last_line v))
  of_last v complete = ap (λ (x : Verdict). is_unbroken (last_line x)) complete

  of_section : (s : Section) → AreUnbroken ds.scopes → AllHave (λ l. IsTrue (is_unbroken l.name)) s.lines
      → AllHave IsCoveredLine s.lines → s.called ≡ [] → s.verdict ≡ verdict.Complete
      → IsPassed (section_text ds files most s)
  of_section s scopes named covered none complete =
      passed_line (first_line ds s.scope) _ (passed_of (first_line ds s.scope) (of_first s.scope scopes))
      (passed_both (target_lines ds s.scope files most s.lines) _ (of_lines s.scope s.lines named covered)
      (passed_both (called_lines ds s.called) (line_before (last_line s.verdict) []) (of_called s.called none)
      (passed_line (last_line s.verdict) [] (passed_of (last_line s.verdict) (of_last s.verdict complete))
      passed_none)))

-- the lines of targets have their names
of_targets : (targets : List TableTarget) (made : List TargetLine) → AllHave (λ t. IsTrue (is_unbroken t.name)) targets
    → AllHave (λ l. IsTrue (is_unbroken l.name)) (named_lines targets made)
of_targets [] made all = tt
of_targets (t ∷ targets) [] all = tt
of_targets (t ∷ targets) (m ∷ made) all = (all.0, of_targets targets made all.1)

module _ (program : Program) (files : List (List ℕ)) (most : ℕ) (named : AreUnbroken program.decls.scopes) where
  one_section : (verdicts : ℕ → Verdict) (table : Table) (made : List TargetLine) (s : Section)
      → TablesScope program table.scope table → IsSection program most verdicts table made s
      → s.verdict ≡ verdict.Complete → IsPassed (section_text program.decls files most s)
  one_section verdicts table made s tabled is complete =
      let lines = complete_lines s.lines s.called (sym is.verdict_is ∙ complete) in
      of_section program.decls files most s named
      (subst (AllHave (λ l. IsTrue (is_unbroken l.name))) (sym is.lines_are)
      (of_targets table.targets made (named_table program named table tabled).targets)) lines.0 lines.1 complete

  pub report_passed : (verdicts : ℕ → Verdict) (tables : List Table) (made : List (List TargetLine))
      (sections : List Section) → AllHave (λ t. TablesScope program t.scope t) tables
      → AreSections program most verdicts tables made sections
      → AllHave (λ s. s.verdict ≡ verdict.Complete) sections
      → IsPassed (report_text program.decls files most sections)
  report_passed verdicts [] [] [] tabled are complete = passed_none
  report_passed verdicts [] [] (s ∷ sections) tabled are complete = elim are [ ]
  report_passed verdicts [] (m ∷ made) sections tabled are complete = elim are [ ]
  report_passed verdicts (t ∷ tables) [] sections tabled are complete = elim are [ ]
  report_passed verdicts (t ∷ tables) (m ∷ made) [] tabled are complete = elim are [ ]
  report_passed verdicts (t ∷ tables) (m ∷ made) (s ∷ sections) tabled are complete =
      passed_both (section_text program.decls files most s) (report_text program.decls files most sections)
      (one_section verdicts t m s tabled.0 are.0 complete.0)
      (report_passed verdicts tables made sections tabled.1 are.1 complete.1)
