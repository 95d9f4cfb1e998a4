-- What wins in no leaf of a searched tree: where that is whole, it never decides, and else its leaves were spent.
use Rattle.std.proofs.Common.{◌≡◌, ℕ, Bool, true, false, IsTrue, List, [], ◌∷◌, map, Option, Some}
use Rattle.std.proofs.Common.{slice_get, refl, sym, ap, ◌∙◌, subst, if◌then◌else◌}
use Rattle.std.specs.List.{list_any}
use Rattle.cat_pos.specs.declared.pos.Pos.{Pos}
use Rattle.cat_value.specs.declared.outcome.Target.{Target}
use Rattle.cat_scope.specs.declared.programs.Program.{Program}
use Rattle.cat_scope.specs.Forests.{targets_of}
use Rattle.cat_scope.specs.Names.{AllHave}
use Rattle.cat_guard.specs.declared.table.Table.{Table}
use Rattle.cat_guard.specs.declared.table.TableTarget.{TableTarget}
use Rattle.cat_guard.specs.declared.tree.CaseTree.{CaseTree}
use Rattle.cat_guard.specs.Tables.{TablesScope, questions_of, target_of}
use Rattle.cat_guard.specs.Trees.{Tree, is_whole}
use Rattle.cat_guard.proofs.Exported.{all_more}
use Rattle.cat_audit_sound.proofs.Exported.{all_at}
use Rattle.cat_cert.specs.Uncovered.{regions_of}
use Rattle.cat_search.specs.Searched.{everything}
use Rattle.cat_dead_report.specs.declared.line.DeadLine.TheVariants as line
use Rattle.cat_dead_report.specs.Causes.{HasDeadLine, WinsInNone}
use Rattle.cat_dead.specs.NeverDecides.{HoldsNowhere, NeverDecides}
use Rattle.cat_dead.specs.Winners.{is_same, winners_in}
use Rattle.cat_dead_report.specs.inside.Searches.{IsSearchedBy}
use Rattle.cat_dead.proofs.Exported.{SameElsewhere}
use Rattle.cat_dead.proofs.Exported.{NeverHeldIn}
use Rattle.cat_audit.proofs.SearchedLemmas.{whole_is}
use Rattle.cat_dead_report.proofs.ReachedLemmas.{none_open}

-- ---- one number, one target

all_mapped : {A B : Type 0} (f : A → B) (P : B → Type 0) (xs : List A) → ((x : A) → P (f x)) → AllHave P (map f xs)
all_mapped f P [] each = tt
all_mapped f P (x ∷ xs) each = (each x, all_mapped f P xs each)

-- those of a table that are of one target are the same
one_target : (program : Program) (table : Table) → TablesScope program table.scope table
    → AllHave (λ t. AllHave (λ u. u.target ≡ t.target → t ≡ u) table.targets) table.targets
one_target program table tabled =
    let make : Target → TableTarget = target_of program.decls tabled.0.items tabled.1.defs
    (questions_of program.decls tabled.1.defs
    (targets_of program.decls table.scope tabled.0.items tabled.1.order)) in
    let targets = targets_of program.decls table.scope tabled.0.items tabled.1.order in
    subst (λ (ts : List TableTarget). AllHave (λ t. AllHave (λ u. u.target ≡ t.target → t ≡ u) ts) ts)
    (sym tabled.4.targets_are)
    (all_mapped make (λ t. AllHave (λ u. u.target ≡ t.target → t ≡ u) (map make targets)) targets
    (λ a. all_mapped make (λ u. u.target ≡ a → make a ≡ u) targets (λ b same. ap make (sym same))))

module _ (program : Program) (table : Table) (tabled : TablesScope program table.scope table)
    (held : AllHave (NeverHeldIn table.terms table.atoms) table.targets)
    (dies : (p : Pos) → AllHave (λ t. HoldsNowhere table t p → AllHave (SameElsewhere table t p) table.targets
    → NeverDecides program table t p) table.targets)
    (t : TableTarget) (n : ℕ) (at : slice_get table.targets n ≡ Some t) (budget : ℕ) (found : CaseTree) (whole : Bool)
    (by_search : IsSearchedBy table t budget found whole) (p : Pos) (lost : WinsInNone table t p found.nodes) where
  -- where nothing is left to explore it holds nowhere
  nowhere : IsTrue (is_whole by_search.made.tree) → HoldsNowhere table t p
  nowhere all v is_v =
      let base = everything table.terms in
      let region_is = whole_is table.terms table.atoms table.targets table.sound in
      all_at (NeverHeldIn table.terms table.atoms) table.targets n t held at base by_search.made.tree p v region_is refl
      all (none_open table.terms table.atoms table.targets table.sound t base by_search.made.tree
      by_search.made.searched)
      (subst (λ (o : Option Tree). list_any (is_same p) (winners_in table.atoms t (regions_of table.atoms base o))
      ≡ false) by_search.made.tree_is lost)
      (record { valuation = is_v; agreeing = refl })

  never : IsTrue (is_whole by_search.made.tree) → NeverDecides program table t p
  never all =
      let holds = nowhere all in
      all_at (λ u. HoldsNowhere table u p → AllHave (SameElsewhere table u p) table.targets
      → NeverDecides program table u p) table.targets n t (dies p) at holds
      (all_more (λ u. u.target ≡ t.target → t ≡ u) (SameElsewhere table t p) table.targets
      (all_at (λ t. AllHave (λ u. u.target ≡ t.target → t ≡ u) table.targets) table.targets n t
      (one_target program table tabled) at)
      (λ u one same. subst (λ (x : TableTarget). HoldsNowhere table x p) (one same) holds))

  pub rest_cause : HasDeadLine program table t budget found.nodes p (if whole then line.Never else line.Budget)
  rest_cause = by whole refl
    where
      by : (b : Bool) → whole ≡ b
          → HasDeadLine program table t budget found.nodes p (if b then line.Never else line.Budget)
      by true e =
          let all : is_whole by_search.made.tree ≡ true = sym by_search.whole_is ∙ e in
          (record { made = by_search.made; whole = all }, lost, never all)
      by false e = (
        record {
          more_cells = by_search.more_cells e;
          made = by_search.made;
          rest = sym by_search.whole_is ∙ e;
          leaves_are = by_search.spent e;
        },
        lost,
      )
