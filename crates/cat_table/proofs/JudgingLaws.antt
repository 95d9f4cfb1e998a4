-- The lines of a table agree with the judgings of runs.
use Rattle.std.proofs.Common.{◌≡◌, ◌∙◌, ℕ, IsTrue, List, ◌++◌, map, [], ◌∷◌, Option, Some, None, Result, Ok, Err}
use Rattle.std.proofs.Common.{sym, ap, subst, true≢false, codes, ⊎_elim}
use Rattle.std.proofs.Math.Logic.{∥∥₁_elim, ∥∥₁_prop}
use Rattle.cat_value.specs.declared.outcome.Target.{Target}
use Rattle.cat_value.specs.declared.value.Value.{Value}
use Rattle.cat_region.specs.Regions.{Valuation, Admits}
use Rattle.cat_scope.specs.declared.programs.Program.{Program}
use Rattle.cat_scope.specs.declared.stop.Stop.{Stop}
use Rattle.cat_scope.specs.declared.stop.Stop.TheVariants as stops
use Rattle.cat_scope.specs.Calls.{env_of}
use Rattle.cat_scope.specs.Eval.{Env}
use Rattle.cat_scope.specs.Forests.{targets_of}
use Rattle.cat_scope.specs.Judging.{Held}
use Rattle.cat_scope.specs.Names.{AllHave}
use Rattle.cat_scope.specs.WellFormed.{IsWellFormed}
use Rattle.cat_sound.specs.Endings.{IsEnd, IsOf}
use Rattle.cat_sound.proofs.Exported.{all_more}
use Rattle.cat_guard.specs.declared.table.Table.{Table}
use Rattle.cat_guard.specs.declared.table.TableTarget.{TableTarget}
use Rattle.cat_guard.specs.Judged.{judged_in}
use Rattle.cat_guard.specs.TableJudging.{decided}
use Rattle.cat_guard.specs.Tables.{questions_of, target_of}
use Rattle.cat_guard.specs.Trees.{Tree}
use Rattle.cat_guard.specs.Valuations.{holds_at}
use Rattle.cat_guard.proofs.Exported.{all_and}
use Rattle.cat_audit_sound.specs.Follows.{Follows}
use Rattle.cat_audit_sound.proofs.AuditLaws.{body_is, follows, valuation}
use Rattle.cat_search.specs.Searched.{everything, IsSearched}
use Rattle.cat_answer.specs.Answer.{position_text}
use Rattle.cat_table.specs.Conditions.{Naming}
use Rattle.cat_table.specs.Kept.{AreKept, SaysWhatDecides}
use Rattle.cat_table.specs.Judgings.{Agrees, AgreesWithItsLine, IsInRun, RunJudging, calls_at, end_of, scoped_at}
use Rattle.cat_table.specs.Judgings.{target_at, valuation_at}
use Rattle.cat_table.specs.Results.{decided_text, verdict_text}
use Rattle.cat_table.specs.Rows.{rows_from}
use Rattle.cat_table.proofs.ApartLemmas.{elsewhere, not_here}
use Rattle.cat_table.proofs.JudgedInRuns.{stand_there}

-- ---- what a line says

-- what is said where truth values decide is what a judging that follows them came to
agreed : (ns : Naming) (t : TableTarget) (scope item : ℕ) (inner : Option ℕ) (said : List ℕ) (Has : Value → Type 0)
    (end : Result (Option (Held Value)) Stop) (by : Result (Option (Held (Unit {0}))) Stop)
    → t.target ≡ record { scope = scope; item = item; inner = inner }
    → Follows Has (IsEnd (elsewhere scope item)) end by → said ≡ decided_text ns t by → Agrees ns t said end
agreed ns t scope item inner said Has (Ok (Some h)) (Ok (Some i)) here go is =
    is ∙ ap (λ p. codes "definition at " ++ position_text ns.files p) (sym go.2)
agreed ns t scope item inner said Has (Ok (Some h)) (Ok None) here go is = absurd go
agreed ns t scope item inner said Has (Ok (Some h)) (Err stop) here go is = absurd go
agreed ns t scope item inner said Has (Ok None) (Ok None) here go is = is
agreed ns t scope item inner said Has (Ok None) (Ok (Some i)) here go is = absurd go
agreed ns t scope item inner said Has (Ok None) (Err stop) here go is = absurd go
agreed ns t scope item inner said Has (Err (stops.Conflict target positions)) by here go is = λ own.
    ⊎_elim (λ inside. absurd (true≢false (sym inside ∙ ap (elsewhere scope item).may_stop (own ∙ here)
    ∙ not_here scope item inner))) (λ same. is ∙ ap (decided_text ns t) same) go
agreed ns t scope item inner said Has (Err (stops.NoValue target pos)) by here go is = tt
agreed ns t scope item inner said Has (Err (stops.Fault kind pos)) by here go is = tt
agreed ns t scope item inner said Has (Err stops.Stuck) by here go is = tt

-- ---- the target of a table

module _ (program : Program) (formed : ∥ IsWellFormed program.decls program.bodies program.scope_order ∥₁)
    (table : Table) (j : RunJudging) (is : IsInRun program table j) where
  abbrev env : Env
  env = env_of (scoped_at program j) (calls_at program j) j.values

  abbrev at : Valuation
  at = valuation_at program j table

  abbrev in_table : Target → TableTarget
  in_table t =
      target_of program.decls j.decl.items j.body.defs
      (questions_of program.decls j.body.defs (targets_of program.decls j.scope j.decl.items j.body.order)) t

  -- what is kept of a target's rows, by whatever names stand for
  abbrev Kept : TableTarget → Type 0
  Kept t = (ns : Naming) (tree : Tree) → IsSearched table.atoms t (everything table.terms) tree
      → AreKept ns table t (rows_from table.atoms [] (everything table.terms) tree)

  abbrev IsHere : TableTarget → Type 0
  IsHere t = t.target ≡ target_at j → t ≡ in_table (target_at j)

  of_mapped : (targets : List Target) → AllHave IsHere (map in_table targets)
  of_mapped [] = tt
  of_mapped (t ∷ targets) = ((λ same. ap in_table same), of_mapped targets)

  its_line : IsWellFormed program.decls program.bodies program.scope_order → (t : TableTarget)
      → t.target ≡ target_at j → t ≡ in_table (target_at j) → Kept t → (ns : Naming) (tree : Tree)
      → IsSearched table.atoms t (everything table.terms) tree
      → AgreesWithItsLine ns table t (rows_from table.atoms [] (everything table.terms) tree) at (end_of program j)
  its_line well t here same kept ns tree searched =
      let ds = program.decls in
      let allowed = elsewhere j.scope j.item in
      let b = body_is ds program.bodies program.scope_order well j.scope j.decl j.body is.scope_is is.body_is in
      let k = kept ns tree searched in
      let stand = stand_there program well table j is in
      let rows = rows_from table.atoms [] (everything table.terms) tree in
      let go : Follows (IsOf ds is.ty) (IsEnd allowed) (end_of program j) (decided t (holds_at table.atoms at)).end =
      subst (λ (x : TableTarget).
      Follows (IsOf ds is.ty) (IsEnd allowed) (end_of program j) (decided x (holds_at table.atoms at)).end) (sym same)
      (follows ds j.scope j.decl j.body table b.defs b.order is.table_is table.sound allowed env j.item j.inner
      is.params is.ty is.target j.arguments is.arguments_are stand) in
      record {
        one = k.parted at (valuation ds j.scope j.decl j.body table b.defs b.order is.table_is table.sound allowed env
            j.item j.inner is.params is.ty is.target j.arguments is.arguments_are stand);
        agrees = all_more (SaysWhatDecides ns table t)
            (λ r. IsTrue r.shown → Admits r.region at
            → Agrees ns t (verdict_text ns t (judged_in table.atoms r.region t)) (end_of program j)) rows k.says
            (λ r says shown admits. agreed ns t j.scope j.item j.inner
            (verdict_text ns t (judged_in table.atoms r.region t)) (IsOf ds is.ty) (end_of program j)
            (decided t (holds_at table.atoms at)).end here go (says shown at admits));
      }

  pub agree : AllHave Kept table.targets → AllHave (λ t. t.target ≡ target_at j → (ns : Naming) (tree : Tree)
      → IsSearched table.atoms t (everything table.terms) tree
      → ∥ AgreesWithItsLine ns table t (rows_from table.atoms [] (everything table.terms) tree) at
      (end_of program j) ∥₁) table.targets
  agree kept =
      all_and Kept IsHere _ table.targets kept
      (subst (AllHave IsHere) (sym is.table_is.targets_are)
      (of_mapped (targets_of program.decls j.scope j.decl.items j.body.order)))
      (λ t k same here ns tree searched.
      ∥∥₁_elim formed ∥∥₁_prop (λ well. ∣ its_line well t here (same here) k ns tree searched ∣₁))
