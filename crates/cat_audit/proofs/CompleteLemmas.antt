-- What complete sections say.
use Rattle.std.proofs.Common.{◌≡◌, ◌<◌, ℕ, Bool, true, false, IsTrue, List, [], ◌∷◌, length, Some}
use Rattle.std.proofs.Common.{refl, sym, ap, ◌∙◌, subst, true≢false}
use Rattle.std.proofs.lemmas.Option.{slice_get_within}
use Rattle.cat_order.specs.Order.{dependencies_of}
use Rattle.cat_value.specs.declared.declaration.Scope.{Scope}
use Rattle.cat_value.specs.Inputs.{IsWellTyped}
use Rattle.cat_scope.specs.declared.defs.Body.{Body}
use Rattle.cat_scope.specs.declared.programs.Program.{Program}
use Rattle.cat_scope.specs.Calls.{Items}
use Rattle.cat_scope.specs.Names.{AllHave, all_differ}
use Rattle.cat_scope.specs.Outcomes.{scope_outcome}
use Rattle.cat_sound.specs.Settled.{IsClosed}
use Rattle.cat_sound.proofs.Exported.{in_at, same_some}
use Rattle.cat_guard.specs.declared.table.Table.{Table}
use Rattle.cat_guard.specs.declared.tree.CaseTree.{CaseTree}
use Rattle.cat_guard.specs.Tables.{IsTableOf, TablesScope}
use Rattle.cat_audit_sound.specs.Audited.{IsValueOrFault, ScopesAudited, none_may_stop}
use Rattle.cat_audit.specs.declared.finding.TargetLine.{TargetLine}
use Rattle.cat_depend.specs.Reached.{AreReachedFrom, EndsWith, IsReached, calls_in}
use Rattle.cat_depend.specs.Reached as reach
use Rattle.cat_depend.proofs.Exported.{in_of_listed}
use Rattle.cat_audit.specs.declared.report.Report.{Report}
use Rattle.cat_audit.specs.declared.report.Section.{Section}
use Rattle.cat_audit.specs.declared.report.Verdict.{Verdict}
use Rattle.cat_audit.specs.declared.report.Verdict.TheVariants as verdict
use Rattle.cat_audit.specs.Called.{called_lines, verdict_in}
use Rattle.cat_audit.specs.Complete.{AreClosedTrees, HasNoGapWhereComplete, targets_in}
use Rattle.cat_audit_sound.specs.Audited.{HasNoGap}
use Rattle.cat_audit.specs.Reports.{AreSections, IsReport, last_verdict, trees_of}
use Rattle.cat_audit_table.specs.AuditedTables.{scopes_of}
use Rattle.cat_audit.specs.Sections.{IsSection, named_lines}
use Rattle.cat_audit.proofs.CalledLemmas.{IsComplete, all_as, all_complete}
use Rattle.cat_audit.proofs.SectionLemmas.{ToldAt, last_is, own_verdicts, scopes_are, section_scopes, told_at}
use Rattle.cat_audit_table.proofs.TableLemmas.{table_in}
use Rattle.cat_audit.proofs.TargetLemmas.{CoverEach, closed_trees, targets_audited}
use Rattle.cat_audit.proofs.VerdictLemmas.{IsCoveredLine, complete_lines}
use Rattle.cat_audit_sound.specs.Audited.{GapLaw}

-- ---- a complete verdict

abbrev pub is_complete : Verdict → Bool
is_complete verdict.Complete = true
is_complete _ = false

complete_of : (v : Verdict) → is_complete v ≡ true → v ≡ verdict.Complete
complete_of verdict.Complete e = refl
complete_of verdict.Found e = absurd (true≢false (sym e))
complete_of verdict.Masked e = absurd (true≢false (sym e))
complete_of verdict.Undecided e = absurd (true≢false (sym e))

-- what the section of a complete scope says
module _ (program : Program) (budget : ℕ) (f : ℕ → Verdict) (table : Table) (made : List TargetLine)
    (section : Section) (is : IsSection program budget f table made section)
    (complete : section.verdict ≡ verdict.Complete) where
  both : AllHave IsCoveredLine section.lines × (section.called ≡ [])
  both = complete_lines section.lines section.called (sym is.verdict_is ∙ complete)

  pub covered_lines : AllHave IsCoveredLine (named_lines table.targets made)
  covered_lines = subst (AllHave IsCoveredLine) is.lines_are both.0

  pub called_complete : (k : ℕ) → table.scope ≡ k → TablesScope program k table
      → AllHave (IsComplete f) (dependencies_of (calls_in program) k)
  called_complete k same tabled =
      all_complete program k tabled.0 tabled.1 tabled.2 tabled.3 f
      (ap (called_lines program f) (sym same) ∙ sym is.called_are ∙ both.1)

-- ---- of a report

module _ (program : Program) (budget : ℕ) (tables : List Table) (made : List (List TargetLine))
    (sections : List Section) (tabled : AllHave (λ t. TablesScope program t.scope t) tables)
    (are : AreSections program budget (verdict_in sections) tables made sections) where
  abbrev verdicts : ℕ → Verdict
  verdicts n = verdict_in sections n

  abbrev within : ℕ → Bool
  within n = is_complete (verdicts n)

  module _ (default : Table) where
    told : (k : ℕ) → IsTrue (within k) → ToldAt program budget verdicts tables default k verdict.Complete
    told k inside = told_at program budget verdicts default tables made sections tabled are k
        (complete_of (verdicts k) inside)

    -- what a complete scope calls is complete
    pub deps_complete : (k : ℕ) → verdicts k ≡ verdict.Complete
        → AllHave (IsComplete verdicts) (dependencies_of (calls_in program) k)
    deps_complete k e =
        let t = told k (ap is_complete e) in
        called_complete program budget verdicts (table_in tables default k) t.made t.section t.told t.verdict_is k
        t.scope_is t.tabled

    closed : IsClosed within program.decls program.bodies
    closed k inside = all_as (IsComplete verdicts) (λ n. IsTrue (within n)) (dependencies_of (calls_in program) k)
        (λ n e. ap is_complete e) (deps_complete k (complete_of (verdicts k) inside))

    audited : CoverEach → ScopesAudited none_may_stop within program (λ k. table_in tables default k)
    audited cover k decl body inside at there =
        let t = told k inside in
        let one : t.tabled.0 ≡ decl = same_some t.tabled.0 decl (sym t.tabled.2 ∙ at) in
        let two : t.tabled.1 ≡ body = same_some t.tabled.1 body (sym t.tabled.3 ∙ there) in
        record {
          table_is = subst (λ (d : Scope). IsTableOf program.decls k d body (table_in tables default k)) one
              (subst (λ (b : Body). IsTableOf program.decls k t.tabled.0 b (table_in tables default k)) two t.tabled.4);
          sound = (table_in tables default k).sound;
          targets = targets_audited program (table_in tables default k) budget cover
              (table_in tables default k).targets t.made t.told.made_are
              (covered_lines program budget verdicts (table_in tables default k) t.made t.section t.told t.verdict_is);
        }

    pub none_of : CoverEach → ((within : ℕ → Bool) (tables : ℕ → Table) (scope : ℕ) (input : Items)
        → IsClosed within program.decls program.bodies → ScopesAudited none_may_stop within program tables
        → IsTrue (within scope) → IsWellTyped program.decls scope input
        → IsValueOrFault (scope_outcome program scope input))
        → (scope : ℕ) → verdicts scope ≡ verdict.Complete → HasNoGap program scope
    none_of cover law scope complete input typed =
        law within (λ k. table_in tables default k) scope input closed (audited cover) (ap is_complete complete) typed

    -- what is reached from a complete scope is complete
    pub reached_complete : (scope n : ℕ) → verdicts scope ≡ verdict.Complete → IsReached (calls_in program) scope n
        → verdicts n ≡ verdict.Complete
    reached_complete scope n e reach.itself = e
    reached_complete scope n e (reach.further via to r on) =
        in_at (IsComplete verdicts) (dependencies_of (calls_in program) via) to
        (deps_complete via (reached_complete scope via e r))
        (in_of_listed (dependencies_of (calls_in program) via) to on)

    pub each_gap : CoverEach → ((within : ℕ → Bool) (tables : ℕ → Table) (scope : ℕ) (input : Items)
        → IsClosed within program.decls program.bodies → ScopesAudited none_may_stop within program tables
        → IsTrue (within scope) → IsWellTyped program.decls scope input
        → IsValueOrFault (scope_outcome program scope input))
        → (rest : List Section) → AllHave (λ s. s.verdict ≡ verdicts s.scope) rest
        → AllHave (HasNoGapWhereComplete program) rest
    each_gap cover law [] own = tt
    each_gap cover law (s ∷ rest) own =
        (λ e. none_of cover law s.scope (sym own.0 ∙ e), each_gap cover law rest own.1)

    pub each_complete : (scope : ℕ) → verdicts scope ≡ verdict.Complete → (rest : List Section)
        → AllHave (IsReached (calls_in program) scope) (section_scopes rest)
        → AllHave (λ s. s.verdict ≡ verdicts s.scope) rest → AllHave (λ s. s.verdict ≡ verdict.Complete) rest
    each_complete scope e [] reached own = tt
    each_complete scope e (s ∷ rest) reached own =
        (own.0 ∙ reached_complete scope s.scope e reached.0, each_complete scope e rest reached.1 own.1)

gaps_of : (program : Program) (budget : ℕ) (tables : List Table) (made : List (List TargetLine))
    (sections : List Section) → AllHave (λ t. TablesScope program t.scope t) tables
    → AreSections program budget (verdict_in sections) tables made sections
    → all_differ (section_scopes sections) ≡ true → CoverEach → GapLaw program
    → AllHave (HasNoGapWhereComplete program) sections
gaps_of program budget [] [] [] tabled are differ cover law = tt
gaps_of program budget [] [] (s ∷ sections) tabled are differ cover law = elim are [ ]
gaps_of program budget [] (m ∷ made) sections tabled are differ cover law = elim are [ ]
gaps_of program budget (t ∷ tables) made sections tabled are differ cover law =
    each_gap program budget (t ∷ tables) made sections tabled are t cover law sections (own_verdicts sections differ)

completes_of : (program : Program) (budget : ℕ) (tables : List Table) (made : List (List TargetLine))
    (sections : List Section) → AllHave (λ t. TablesScope program t.scope t) tables
    → AreSections program budget (verdict_in sections) tables made sections
    → all_differ (section_scopes sections) ≡ true → (scope : ℕ) → verdict_in sections scope ≡ verdict.Complete
    → AllHave (IsReached (calls_in program) scope) (section_scopes sections)
    → AllHave (λ s. s.verdict ≡ verdict.Complete) sections
completes_of program budget [] [] [] tabled are differ scope e reached = tt
completes_of program budget [] [] (s ∷ sections) tabled are differ scope e reached = elim are [ ]
completes_of program budget [] (m ∷ made) sections tabled are differ scope e reached = elim are [ ]
completes_of program budget (t ∷ tables) made sections tabled are differ scope e reached =
    each_complete program budget (t ∷ tables) made sections tabled are t scope e sections reached
    (own_verdicts sections differ)

-- ---- the laws

module _ (program : Program) (scope budget : ℕ) (report : Report) (is : IsReport program scope budget report)
    (once : (scopes : List ℕ) → AreReachedFrom program scope scopes → all_differ scopes ≡ true) where
  scopes_same : section_scopes report.sections ≡ scopes_of report.tables
  scopes_same =
      scopes_are program budget (verdict_in report.sections) report.tables is.made report.sections is.sections_are

  differ : all_differ (section_scopes report.sections) ≡ true
  differ = subst (λ (ns : List ℕ). all_differ ns ≡ true) (sym scopes_same)
      (once (scopes_of report.tables) is.tables_are.scopes_are)

  pub no_gaps : CoverEach → GapLaw program → AllHave (HasNoGapWhereComplete program) report.sections
  no_gaps cover law =
      gaps_of program budget report.tables is.made report.sections is.tables_are.tables_are is.sections_are differ cover
      law

  module _ (reached : (scopes : List ℕ) → AreReachedFrom program scope scopes
      → AllHave (IsReached (calls_in program) scope) scopes)
      (ends : (scopes : List ℕ) → AreReachedFrom program scope scopes → EndsWith scope scopes)
      (last : last_verdict report.sections ≡ verdict.Complete) where
    pub last_complete : verdict_in report.sections scope ≡ verdict.Complete
    last_complete =
        let end = ends (scopes_of report.tables) is.tables_are.scopes_are in
        last_is report.sections end.0 scope (scopes_same ∙ end.1) differ ∙ last

    pub all_are_complete : AllHave (λ s. s.verdict ≡ verdict.Complete) report.sections
    all_are_complete =
        completes_of program budget report.tables is.made report.sections is.tables_are.tables_are is.sections_are
        differ scope last_complete
        (subst (AllHave (IsReached (calls_in program) scope)) (sym scopes_same)
        (reached (scopes_of report.tables) is.tables_are.scopes_are))

    pub none_left : CoverEach → GapLaw program → HasNoGap program scope
    none_left cover law = by report.tables is.made report.sections is.tables_are.tables_are is.sections_are
        last_complete
      where
        by : (tables : List Table) (made : List (List TargetLine)) (sections : List Section)
            → AllHave (λ t. TablesScope program t.scope t) tables
            → AreSections program budget (verdict_in sections) tables made sections
            → verdict_in sections scope ≡ verdict.Complete → HasNoGap program scope
        by [] [] [] tabled are e = absurd (cc)
        by [] [] (s ∷ sections) tabled are e = elim are [ ]
        by [] (m ∷ made) sections tabled are e = elim are [ ]
        by (t ∷ tables) made sections tabled are e =
            none_of program budget (t ∷ tables) made sections tabled are t cover law scope e

-- ---- trees

pub all_trees : (program : Program) (budget : ℕ) (f : ℕ → Verdict) (tables : List Table)
    (made : List (List TargetLine)) (sections : List Section) → AreSections program budget f tables made sections
    → AllHave (λ s. s.verdict ≡ verdict.Complete) sections
    → AreClosedTrees budget (targets_in tables) (trees_of made)
all_trees program budget f [] [] [] are complete = tt
all_trees program budget f [] [] (s ∷ sections) are complete = elim are [ ]
all_trees program budget f [] (m ∷ made) sections are complete = elim are [ ]
all_trees program budget f (t ∷ tables) [] sections are complete = elim are [ ]
all_trees program budget f (t ∷ tables) (m ∷ made) [] are complete = elim are [ ]
all_trees program budget f (t ∷ tables) (m ∷ made) (s ∷ sections) are complete =
    closed_trees program t budget t.targets m are.0.made_are
    (covered_lines program budget f t m s are.0 complete.0) (targets_in tables) (trees_of made)
    (all_trees program budget f tables made sections are.1 complete.1)

pub report_trees : (program : Program) (scope budget : ℕ) (report : Report) → IsReport program scope budget report
    → AllHave (λ s. s.verdict ≡ verdict.Complete) report.sections
    → AreClosedTrees budget (targets_in report.tables) report.trees
report_trees program scope budget report is complete =
    subst (AreClosedTrees budget (targets_in report.tables)) (sym is.trees_are)
    (all_trees program budget (verdict_in report.sections) report.tables is.made report.sections is.sections_are
    complete)

-- ---- which scopes sections are of

scopes_below : (program : Program) (budget : ℕ) (f : ℕ → Verdict) (tables : List Table)
    (made : List (List TargetLine)) (sections : List Section)
    → AllHave (λ t. TablesScope program t.scope t) tables → AreSections program budget f tables made sections
    → AllHave (λ s. s.scope < length program.decls.scopes) sections
scopes_below program budget f [] [] [] tabled are = tt
scopes_below program budget f [] [] (s ∷ sections) tabled are = elim are [ ]
scopes_below program budget f [] (m ∷ made) sections tabled are = elim are [ ]
scopes_below program budget f (t ∷ tables) [] sections tabled are = elim are [ ]
scopes_below program budget f (t ∷ tables) (m ∷ made) [] tabled are = elim are [ ]
scopes_below program budget f (t ∷ tables) (m ∷ made) (s ∷ sections) tabled are = (
  subst (λ (n : ℕ). n < length program.decls.scopes) (sym are.0.scope_is)
      (slice_get_within program.decls.scopes t.scope tabled.0.0 tabled.0.2),
  scopes_below program budget f tables made sections tabled.1 are.1,
)

pub sections_below : (program : Program) (scope budget : ℕ) (report : Report)
    → IsReport program scope budget report → AllHave (λ s. s.scope < length program.decls.scopes) report.sections
sections_below program scope budget report is =
    scopes_below program budget (verdict_in report.sections) report.tables is.made report.sections
    is.tables_are.tables_are is.sections_are
