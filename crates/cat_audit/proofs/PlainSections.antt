-- The section of a plain scope, which is the only one of its report.
use Rattle.std.proofs.Common.{◌≡◌, ℕ, true, List, [], ◌∷◌}
use Rattle.std.proofs.Common.{refl, sym, ap, ◌∙◌, subst}
use Rattle.cat_scope.specs.declared.programs.Program.{Program}
use Rattle.cat_scope.specs.Names.{AllHave, all_differ}
use Rattle.cat_guard.specs.declared.table.Table.{Table}
use Rattle.cat_guard.specs.Tables.{TablesScope}
use Rattle.cat_audit.specs.declared.finding.TargetLine.{TargetLine}
use Rattle.cat_depend.specs.Reached.{AreReachedFrom, EndsWith, IsReached, calls_in}
use Rattle.cat_audit.specs.declared.report.NamedLine.{NamedLine}
use Rattle.cat_audit.specs.declared.report.Report.{Report}
use Rattle.cat_audit.specs.declared.report.Section.{Section}
use Rattle.cat_audit.specs.declared.report.Verdict.{Verdict}
use Rattle.cat_audit.specs.declared.report.Verdict.TheVariants as verdict
use Rattle.cat_audit.specs.Called.{called_lines, verdict_in}
use Rattle.cat_audit_sound.specs.Audited.{HasNoGap}
use Rattle.cat_audit.specs.Reports.{AreSections, IsReport, last_verdict}
use Rattle.cat_audit_table.specs.AuditedTables.{scopes_of}
use Rattle.cat_audit.specs.Sections.{IsSection, named_lines, verdict_of}
use Rattle.cat_audit.specs.Decided.{EndsInNoFault, HasCellsWithin, IsDecided, IsDecidedLine, IsUnderived}
use Rattle.cat_audit.specs.Decided.{IsUnderivedLine, IsWholeVerdict}
use Rattle.cat_audit.specs.Plain.{IsPlain}
use Rattle.cat_audit.proofs.Lists.{all_as}
use Rattle.cat_audit.proofs.PlainAlone.{itself_alone, no_line, one_alone}
use Rattle.cat_audit.proofs.FreeTables.{free_terms, no_function_targets}
use Rattle.cat_audit.proofs.PlainLines.{ShowsOf, decided_lines, lines_show, underived_lines}
use Rattle.cat_audit.proofs.Verdicts.{whole_verdict}

-- sections of one table of a scope
pub record IsOnly (program : Program) (budget scope : ℕ) (f : ℕ → Verdict) (sections : List Section) : Type 0 where
  pub table : Table
  pub made : List TargetLine
  pub section : Section
  pub sections_are : sections ≡ section ∷ []
  pub told : IsSection program budget f table made section
  pub scope_is : table.scope ≡ scope
  pub tabled : TablesScope program scope table

only : (program : Program) (budget scope : ℕ) (f : ℕ → Verdict) (tables : List Table)
    (made : List (List TargetLine)) (sections : List Section) → scopes_of tables ≡ scope ∷ []
    → AllHave (λ (t : Table). TablesScope program t.scope t) tables → AreSections program budget f tables made sections
    → IsOnly program budget scope f sections
only program budget scope f [] made sections one tabled are = absurd (cc)
only program budget scope f (t ∷ u ∷ tables) made sections one tabled are = absurd (cc)
only program budget scope f (t ∷ []) [] sections one tabled are = elim are [ ]
only program budget scope f (t ∷ []) (m ∷ made) [] one tabled are = elim are [ ]
only program budget scope f (t ∷ []) (m ∷ n ∷ made) (s ∷ sections) one tabled are = elim are.1 [ ]
only program budget scope f (t ∷ []) (m ∷ []) (s ∷ r ∷ sections) one tabled are = elim are.1 [ ]
only program budget scope f (t ∷ []) (m ∷ []) (s ∷ []) one tabled are =
    let is : t.scope ≡ scope = cc in
    record {
      table = t;
      made = m;
      section = s;
      sections_are = refl;
      told = are.0;
      scope_is = is;
      tabled = subst (λ (n : ℕ). TablesScope program n t) is tabled.0;
    }

module _ (program : Program) (scope budget : ℕ) (report : Report) (plain : IsPlain program scope)
    (is : IsReport program scope budget report)
    (once : (scopes : List ℕ) → AreReachedFrom program scope scopes → all_differ scopes ≡ true)
    (reached : (scopes : List ℕ) → AreReachedFrom program scope scopes
    → AllHave (IsReached (calls_in program) scope) scopes)
    (ends : (scopes : List ℕ) → AreReachedFrom program scope scopes → EndsWith scope scopes) where
  abbrev f : ℕ → Verdict
  f = verdict_in report.sections

  one : scopes_of report.tables ≡ scope ∷ []
  one =
      let scopes = scopes_of report.tables in
      let are = is.tables_are.scopes_are in
      one_alone scope scopes (ends scopes are) (once scopes are)
      (all_as (IsReached (calls_in program) scope) (λ (n : ℕ). n ≡ scope) scopes (itself_alone program scope plain)
      (reached scopes are))

  only_one : IsOnly program budget scope f report.sections
  only_one = only program budget scope f report.tables is.made report.sections one is.tables_are.tables_are
      is.sections_are

  abbrev o : IsOnly program budget scope f report.sections
  o = only_one

  none_called : o.section.called ≡ []
  none_called = o.told.called_are
      ∙ subst (λ (n : ℕ). called_lines program f n ≡ []) (sym o.scope_is) (no_line program scope plain f)

  underives : AllHave (λ (l : NamedLine). IsUnderivedLine l.line) o.section.lines
  underives = subst (AllHave (λ (l : NamedLine). IsUnderivedLine l.line)) (sym o.told.lines_are)
      (underived_lines program o.table budget (free_terms program scope plain o.table o.tabled) o.table.targets o.made
      (no_function_targets program scope plain o.table o.tabled) o.told.made_are)

  decides : HasCellsWithin program scope budget → AllHave (λ (l : NamedLine). IsDecidedLine l.line) o.section.lines
  decides within = subst (AllHave (λ (l : NamedLine). IsDecidedLine l.line)) (sym o.told.lines_are)
      (decided_lines program o.table budget (free_terms program scope plain o.table o.tabled) o.table.targets o.made
      (no_function_targets program scope plain o.table o.tabled) (within o.table o.tabled) o.told.made_are)

  shows : AllHave (λ (l : NamedLine). ShowsOf program scope l.line) o.section.lines
  shows = subst (AllHave (λ (l : NamedLine). ShowsOf program scope l.line)) (sym o.told.lines_are)
      (subst (λ (n : ℕ). AllHave (λ (l : NamedLine). ShowsOf program n l.line) (named_lines o.table.targets o.made))
      o.scope_is (lines_show program o.table budget o.table.targets o.made o.told.made_are))

  pub all_underived : IsUnderived scope report
  all_underived = record {
    section = o.section;
    sections_are = o.sections_are;
    scope_is = o.told.scope_is ∙ o.scope_is;
    lines = underives;
    called = none_called;
  }

  pub all_decided : HasCellsWithin program scope budget → IsDecided scope report
  all_decided within = record {
    section = o.section;
    sections_are = o.sections_are;
    scope_is = o.told.scope_is ∙ o.scope_is;
    lines = decides within;
    called = none_called;
  }

  last_is : last_verdict report.sections ≡ verdict_of o.section.lines []
  last_is = ap last_verdict o.sections_are ∙ o.told.verdict_is ∙ ap (verdict_of o.section.lines) none_called

  pub all_told : HasCellsWithin program scope budget → EndsInNoFault program scope
      → (last_verdict report.sections ≡ verdict.Complete → HasNoGap program scope)
      → IsWholeVerdict program scope (last_verdict report.sections)
  all_told within none complete = subst (IsWholeVerdict program scope) (sym last_is)
      (whole_verdict program scope o.section.lines (decides within) shows none (λ e. complete (last_is ∙ e)))
