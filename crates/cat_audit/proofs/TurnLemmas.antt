-- One turn of the audit's loop.
use Rattle.std.proofs.Common.{◌≡◌, ◌<◌, ◌+◌, ℕ, suc, IsTrue, List, [], ◌∷◌, ◌++◌, length, take, drop, set}
use Rattle.std.proofs.Common.{Some, slice_get, get_or, refl, sym, ap, ◌∙◌, subst, add-one}
use Rattle.std.proofs.lemmas.Option.{slice_get_read}
use Rattle.cat_scope.specs.declared.programs.Program.{Program}
use Rattle.cat_scope.specs.Names.{all_differ}
use Rattle.cat_scope.specs.WellFormed.{IsWellFormed}
use Rattle.cat_guard.specs.declared.table.Table.{Table}
use Rattle.cat_guard.specs.declared.tree.CaseTree.{CaseTree}
use Rattle.cat_guard.specs.Tables.{TablesScope}
use Rattle.cat_depend.specs.Reached.{AreReachedFrom, StandBehind, calls_in}
use Rattle.cat_audit.specs.declared.report.Section.{Section}
use Rattle.cat_audit.specs.declared.report.Verdict.{Verdict}
use Rattle.cat_audit_table.specs.AuditedTables.{AreTablesOf, scopes_of}
use Rattle.cat_audit.specs.inside.Underway.{MakesSection}
use Rattle.cat_audit.proofs.LineLemmas.{have_front, split_get, take_next}
use Rattle.cat_audit_table.proofs.TableLemmas.{have_at}
use Rattle.cat_audit.proofs.UnderwayLemmas.{IsUnderWay, one_more}

module _ (program : Program) (scope : ℕ) (tables listed : List Table) (are : AreTablesOf program scope tables)
    (same : listed ≡ tables) (i : ℕ) (t : Table) (within : i < length listed) (is : t ≡ get_or listed i t) where
  at : slice_get tables i ≡ Some t
  at = ap (λ (ts : List Table). slice_get ts i) (sym same)
      ∙ slice_get_read listed (length listed) i t refl within is

  pub here : TablesScope program t.scope t
  here = have_at (λ (x : Table). TablesScope program x.scope x) tables are.tables_are i t at

  module _ (formed : ∥ IsWellFormed program.decls program.bodies program.scope_order ∥₁) (budget : ℕ)
      (behind : (scopes : List ℕ) → AreReachedFrom program scope scopes → StandBehind (calls_in program) scopes)
      (once : (scopes : List ℕ) → AreReachedFrom program scope scopes → IsTrue (all_differ scopes))
      (verdicts : List Verdict) (sections : List Section) (old : List CaseTree)
      (way : IsUnderWay program budget (take i listed) verdicts sections old) where
    pub turn : (new : List CaseTree) (s : Section) → MakesSection program budget verdicts t old new s
        → IsUnderWay program budget (take (i + 1) listed) (set verdicts t.scope s.verdict) (sections ++ s ∷ []) new
    turn new s makes =
        subst (λ (front : List Table). IsUnderWay program budget front (set verdicts t.scope s.verdict)
        (sections ++ s ∷ []) new)
        (sym (ap (λ (ts : List Table). take (i + 1) ts) same ∙ ap (λ (k : ℕ). take k tables) (add-one i)
        ∙ take_next tables i t at))
        (one_more program formed budget tables (take i tables) (drop (suc i) tables) t (split_get tables i t at)
        (have_front (λ (x : Table). TablesScope program x.scope x) i tables are.tables_are) here
        (behind (scopes_of tables) are.scopes_are) (once (scopes_of tables) are.scopes_are) verdicts sections old
        (subst (λ (ts : List Table). IsUnderWay program budget (take i ts) verdicts sections old) same way) new s
        makes)
