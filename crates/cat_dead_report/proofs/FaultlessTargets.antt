-- What the judging of a target comes to none of whose definitions can fault: what truth values come to.
use Rattle.std.proofs.Common.{◌≡◌, inl, inr, ℕ, Bool, true, false, IsTrue, List, [], ◌∷◌}
use Rattle.std.proofs.Common.{take, Option, Some, None, Result, Ok, Err, slice_get, refl, sym, ap, ◌∙◌, subst}
use Rattle.std.proofs.Common.{if◌then◌else◌}
use Rattle.cat_pos.specs.declared.pos.Pos.{Pos}
use Rattle.cat_value.specs.declared.ty.Ty.{Ty}
use Rattle.cat_value.specs.declared.value.Value.{Value}
use Rattle.cat_value.specs.declared.decls.Decls.{Decls}
use Rattle.cat_value.specs.declared.declaration.ItemDecl.{ItemDecl}
use Rattle.cat_value.specs.declared.declaration.Scope.{Scope}
use Rattle.cat_value.specs.declared.outcome.Target.{Target}
use Rattle.cat_value.specs.Inputs.{are_given_for}
use Rattle.cat_region.specs.declared.dim.Dim.{Dim}
use Rattle.cat_region.specs.Regions.{Constraints, Valuation, IsRegion, IsValuation, Admits}
use Rattle.cat_region.specs.Decided.{admits_none}
use Rattle.cat_scope.specs.declared.stop.Stop.{Stop}
use Rattle.cat_scope.specs.declared.expr.Expr.{Expr}
use Rattle.cat_scope.specs.declared.defs.Body.{Body}
use Rattle.cat_scope.specs.declared.defs.Def.{Def}
use Rattle.cat_scope.specs.Runs.{Run}
use Rattle.cat_scope.specs.Names.{Names, AllHave, IsOneOf}
use Rattle.cat_scope.specs.Naming.{IsTargetAt}
use Rattle.cat_scope.specs.WellFormed.{ConditionTyped, DefTyped, IsWellFormed}
use Rattle.cat_scope.specs.Groups.{Numbered}
use Rattle.cat_scope.specs.Same.{Standing}
use Rattle.cat_scope.specs.Forests.{targets_of}
use Rattle.cat_scope.specs.Judging.{Held, Judged}
use Rattle.cat_scope.specs.Targets.{same_target, defs_from, condition_of, judge_def, judge_target}
use Rattle.cat_scope.specs.Eval.{Env, eval}
use Rattle.cat_scope.specs.Calls.{Items, Scoped, call, env_of}
use Rattle.cat_scope.specs.Running.{backwards}
use Rattle.cat_sound.specs.Endings.{IsEnd, IsOf, IsEnvOf}
use Rattle.cat_sound.specs.Given.{values_at}
use Rattle.cat_sound.specs.Settled.{InCondition, StandsIn}
use Rattle.cat_sound.proofs.Exported.{anything, defs-all, stands_end}
use Rattle.cat_guard.specs.declared.table.Atom.{Atom}
use Rattle.cat_guard.specs.declared.table.Term.{Term}
use Rattle.cat_guard.specs.declared.table.TableTarget.{TableTarget}
use Rattle.cat_guard.specs.Formulas.{truth}
use Rattle.cat_guard.specs.GuardFormulas.{formula_of}
use Rattle.cat_guard.specs.Questions.{Question, condition_guard}
use Rattle.cat_guard.specs.TableJudging.{by_truth, decided, Covers, IsCovered}
use Rattle.cat_guard.specs.Tables.{standing_of, def_formula, questions_of, guard_def, target_of}
use Rattle.cat_guard.specs.Terms.{terms_of, atoms_of}
use Rattle.cat_guard.specs.Judged.{judged_in}
use Rattle.cat_guard.specs.Valuations.{dims_of, holds_at}
use Rattle.cat_guard.specs.Verdicts.{Verdict, Holds, Empty, Conflict, Open}
use Rattle.cat_guard.specs.Verdicts.{Stands}
use Rattle.cat_dead.specs.Winners.{holder_of, place_of, winner_in}
use Rattle.cat_guard.proofs.Exported.{IsSoundTarget, all_and}
use Rattle.cat_audit_sound.specs.Evaluations.{answered}
use Rattle.cat_audit_sound.specs.Failing.{IsOfFreeTerms, Shows}
use Rattle.cat_audit_sound.specs.Follows.{Follows}
use Rattle.cat_audit_sound.proofs.CoveredTargets.{alike_at_free}
use Rattle.cat_audit_sound.proofs.DefFollows.{def_goes}
use Rattle.cat_audit_sound.proofs.Failures.{admits_alike}
use Rattle.cat_audit_sound.proofs.FilledEnvs.{filled_given}
use Rattle.cat_audit_sound.proofs.GuardAnswers.{guard_holds}
use Rattle.cat_audit_sound.proofs.GuardTells.{guard_told}
use Rattle.cat_audit_sound.proofs.JudgedAtIndex.{env_at, judged_at_index, stands_at_index}
use Rattle.cat_audit_sound.proofs.Numbered.{all_are}
use Rattle.cat_audit_sound.proofs.PointsOfTerms.{points_in, points_is}
use Rattle.cat_audit_sound.proofs.SameSelf.{term_self}
use Rattle.cat_audit_sound.proofs.StandingDefs as standing
use Rattle.cat_audit_sound.proofs.StandingDefs.{body_of}
use Rattle.cat_audit_sound.proofs.TargetFollows.{DefGoes, target_goes}
use Rattle.cat_audit_sound.proofs.ConditionsTell.{Tells, tells_as, tells_Boolean}
use Rattle.cat_dead_report.specs.inside.Faultless.{def_cannot_fault}
use Rattle.cat_dead_report.proofs.CalmLemmas.{IsCalm, def_calm}

-- nothing stops inside
abbrev pub NoStop : Stop → Type 0
NoStop stop = ⊥

-- ---- definitions

-- what follows a truth value and is calm stops nowhere
only : (Has : Value → Type 0) (b : Bool) (n : ℕ) (p : Pos) (r : Result (Option (Held Value)) Stop)
    → Follows Has (IsEnd anything) r (by_truth b n p).end → IsCalm r → Follows Has NoStop r (by_truth b n p).end
only Has true n p (Err stop) (inl ended) is = absurd (subst (IsEnd anything) is ended)
only Has true n p (Err stop) (inr same) is = inr same
only Has false n p (Err stop) (inl ended) is = absurd (subst (IsEnd anything) is ended)
only Has false n p (Err stop) (inr same) is = inr same
only Has true n p (Ok None) go is = go
only Has false n p (Ok None) go is = go
only Has true n p (Ok (Some h)) go is = go
only Has false n p (Ok (Some h)) go is = go

-- ---- what holds where a definition wins

-- what is judged in a region is so at each valuation that it admits
abbrev pub JudgedSo : List Term → List Atom → TableTarget → Type 0
JudgedSo terms atoms t =
    (region : Constraints) (v : Valuation) → IsRegion region → region.dims ≡ dims_of terms → Admits region v
    → Stands t.target t.defs (judged_in atoms region t) (decided t (holds_at atoms v)).end

abbrev first_or : Pos → List Pos → Pos
first_or p [] = p
first_or p (q ∷ qs) = q

-- truth values hold with the winner of a region
winner_held : (t : TableTarget) (p : Pos) (b : Bool) (j : Verdict) (r : Result (Option (Held (Unit {0}))) Stop)
    → (if b then [] else holder_of t j) ≡ p ∷ [] → Stands t.target t.defs j r
    → (i : Held (Unit {0})) × (r ≡ Ok (Some i)) × (i.pos ≡ p)
winner_held t p true j r wins stands = absurd (cc)
winner_held t p false (Holds d) (Ok (Some i)) wins stands =
    let place : stands.0.pos ∷ [] ≡ p ∷ [] = ap place_of (sym stands.1) ∙ wins in
    (i, refl, ap (λ (x : Held (Unit {0})). x.pos) stands.2 ∙ ap (first_or p) place)
winner_held t p false (Holds d) (Ok None) wins stands = elim stands [ ]
winner_held t p false (Holds d) (Err stop) wins stands = elim stands [ ]
winner_held t p false Empty r wins stands = absurd (cc)
winner_held t p false Conflict r wins stands = absurd (cc)
winner_held t p false Open r wins stands = absurd (cc)

-- a judging that stops nowhere inside comes to what covers it, where truth values do
comes_to : (Has : Value → Type 0) (empty : Bool) (r : Result (Option (Held Value)) Stop)
    (s : Result (Option (Held (Unit {0}))) Stop) → Follows Has NoStop r s → IsCovered empty s
    → (found : Option (Held Value)) × (r ≡ Ok found) × IsCovered {A = Value} empty (Ok found)
comes_to Has empty (Err stop) s (inl none) is = elim none [ ]
comes_to Has empty (Err stop) s (inr same) is = elim (subst (λ x. IsCovered empty x) same is) [ ]
comes_to Has empty (Ok None) (Ok None) go is = (None, refl, is)
comes_to Has empty (Ok None) (Ok (Some i)) go is = elim go [ ]
comes_to Has empty (Ok None) (Err stop) go is = elim go [ ]
comes_to Has empty (Ok (Some h)) s go is = (Some h, refl, tt)

-- a judging that stops nowhere inside holds with the same definition
followed : (Has : Value → Type 0) (r : Result (Option (Held Value)) Stop)
    (s : Result (Option (Held (Unit {0}))) Stop) (i : Held (Unit {0})) → s ≡ Ok (Some i) → Follows Has NoStop r s
    → (h : Held Value) × (r ≡ Ok (Some h)) × (h.pos ≡ i.pos)
followed Has (Err stop) s i is (inl none) = elim none [ ]
followed Has (Err stop) s i is (inr same) = absurd (cc)
followed Has (Ok None) s i is go = elim (subst (λ x. Follows Has NoStop (Ok None) x) is go) [ ]
followed Has (Ok (Some h)) s i is go =
    let two = subst (λ x. Follows Has NoStop (Ok (Some h)) x) is go in (h, refl, two.2)

-- ---- a target

module _ (ns : Names) (scope : ℕ) (defs : List Def) (typed : AllHave (DefTyped ns scope) defs)
    (targets : List Target) (env : Env) where
  abbrev qs : List Question
  qs = questions_of ns.decls defs targets

  abbrev holds : ℕ → Bool
  holds = holds_at (atoms_of qs) (points_in env (terms_of ns.items qs))

  abbrev value : Expr → Run Value
  value e = eval env e []

  module _ (item : ℕ) (inner : Option ℕ) (t : Ty) (target : IsTargetAt ns item inner [] t)
      (listed : IsOneOf (record { scope = scope; item = item; inner = inner }) targets) where
    abbrev here : Target
    here = record { scope = scope; item = item; inner = inner }

    abbrev StandsHere : Def → Type 0
    StandsHere d = StandsIn anything ns env [] t d

    condition_tells : (g : Standing) (o : Option Expr) → ConditionTyped ns [] o
        → InCondition (IsEnvOf anything ns env) o
        → Tells (condition_of value o).end (truth (answered (λ e. (value e).end)) (condition_guard ns.decls g o))
    condition_tells g None is has = tells_Boolean true
    condition_tells g (Some e) is has = guard_told anything ns env [] [] tt g e is has

    abbrev Ready : Def → Type 0
    Ready d = IsTrue (same_target d.target here) × StandsHere d × DefTyped ns scope d

    each_goes : (sound : IsSoundTarget (target_of ns.decls ns.items defs qs here)) → (d : Numbered) → Ready d.1
        → def_cannot_fault d.1 ≡ true → IsOneOf d (defs_from here 0 defs)
        → DefGoes (IsOf ns.decls t) NoStop ns.decls ns.items defs qs here value holds sound d
    each_goes sound d ready can among =
        let b = truth holds (formula_of (guard_def ns.decls qs d).guard) in
        only (IsOf ns.decls t) b d.0 d.1.pos (judge_def value d).end
        (def_goes anything ns.decls t value d b
        (stands_end anything ns env [] t [] tt d.1 ready.1)
        (tells_as (condition_of value d.1.condition).end (condition_of value d.1.condition).end b
        (truth (answered (λ e. (value e).end)) (def_formula ns.decls d.1)) refl
        (guard_holds ns scope defs typed targets env term_self item inner t target listed d ready.0 among ready.2)
        (condition_tells (standing_of d.1) d.1.condition ready.1.condition ready.1.condition_env)))
        (def_calm env d can)

    -- its judging comes to what truth values come to
    pub follows : IsSoundTarget (target_of ns.decls ns.items defs qs here)
        → AllHave (λ d. IsTrue (same_target d.target here) → StandsHere d) defs
        → AllHave (λ d. def_cannot_fault d.1 ≡ true) (defs_from here 0 defs)
        → Follows (IsOf ns.decls t) NoStop (judge_target value here defs).end
        (decided (target_of ns.decls ns.items defs qs here) holds).end
    follows sound stand harmless =
        target_goes (IsOf ns.decls t) NoStop ns.decls ns.items defs qs here value holds sound
        (all_and (λ d. Ready d.1 × (def_cannot_fault d.1 ≡ true)) (λ d. IsOneOf d (defs_from here 0 defs))
        (DefGoes (IsOf ns.decls t) NoStop ns.decls ns.items defs qs here value holds sound)
        (defs_from here 0 defs)
        (all_and (λ d. Ready d.1) (λ d. def_cannot_fault d.1 ≡ true)
        (λ d. Ready d.1 × (def_cannot_fault d.1 ≡ true)) (defs_from here 0 defs)
        (defs-all Ready here 0 defs
        (all_and (λ d. IsTrue (same_target d.target here) → StandsHere d) (DefTyped ns scope)
        (λ d. IsTrue (same_target d.target here) → Ready d) defs stand typed (λ d h k same. (same, h same, k))))
        harmless (λ d ready can. (ready, can)))
        (all_are (defs_from here 0 defs)) (λ d two among. each_goes sound d two.0 two.1 among))

-- ---- a target of a scope of a program

module _ (ds : Decls) (bodies : List Body) (order : List ℕ) (formed : IsWellFormed ds bodies order) (scope : ℕ)
    (decl : Scope) (body : Body) (at : slice_get ds.scopes scope ≡ Some decl)
    (also : slice_get bodies scope ≡ Some body) where
  abbrev items : List ItemDecl
  items = decl.items

  abbrev names : Names
  names = record { decls = ds; items = items }

  abbrev scoped : Scoped
  scoped = standing.scoped ds bodies order formed scope decl body at also

  abbrev all_targets : List Target
  all_targets = targets_of ds scope items body.order

  abbrev questions : List Question
  questions = questions_of ds body.defs all_targets

  abbrev terms : List Term
  terms = terms_of items questions

  abbrev atoms : List Atom
  atoms = atoms_of questions

  abbrev in_table : Target → TableTarget
  in_table t = target_of ds items body.defs questions t

  module _ (input : Items) (given : IsTrue (are_given_for ds items input)) (index item : ℕ)
      (there : slice_get body.order index ≡ Some item) (t : Ty) (target : IsTargetAt names item None [] t)
      (listed : IsOneOf (record { scope = scope; item = item; inner = None }) all_targets)
      (sound : IsSoundTarget (in_table (record { scope = scope; item = item; inner = None })))
      (values : Items) (reached : (values_at scoped input index).end ≡ Ok values) where
    abbrev own : Target
    own = record { scope = scope; item = item; inner = None }

    abbrev env : Env
    env = env_at ds bodies order formed scope decl body at also input index values

    abbrev points : Valuation
    points = points_in env terms

    points_valid : IsValuation (dims_of terms) points
    points_valid =
        points_is names scope body.defs (body_of ds bodies order formed scope decl body at also).defs all_targets env

    -- its judging comes to what truth values come to at these points, where none of its definitions can fault
    module _ (harmless : AllHave (λ d. def_cannot_fault d.1 ≡ true) (defs_from own 0 body.defs)) where
      abbrev judging : Judged Value
      judging =
          judge_target (λ e. eval (env_of scoped (call scoped values (backwards (take index body.order))) values) e [])
          own body.defs

      judged : Follows (IsOf ds t) NoStop judging.end (decided (in_table own) (holds_at atoms points)).end
      judged =
          subst (λ (j : Judged Value). Follows (IsOf ds t) NoStop j.end
          (decided (in_table own) (holds_at atoms points)).end)
          (sym (judged_at_index ds bodies order formed scope decl body at also input index values given item there
          reached None))
          (follows names scope body.defs (body_of ds bodies order formed scope decl body at also).defs all_targets env
          item None t target listed sound
          (stands_at_index ds bodies order formed scope decl body at also input index values given item there reached
          None t target) harmless)

      -- where each valuation covers it, it comes to what covers it
      pub covered : ((v : Valuation) → IsValuation (dims_of terms) v → Covers (in_table own) (holds_at atoms v))
          → (found : Option (Held Value)) × (judging.end ≡ Ok found)
          × IsCovered {A = Value} (in_table own).may_be_empty (Ok found)
      covered each =
          comes_to (IsOf ds t) (in_table own).may_be_empty judging.end
          (decided (in_table own) (holds_at atoms points)).end judged (each points points_valid)

      -- where a definition wins in a region of free terms, which admits the points that are shown, it is Held with it
      pub held : (shown : Valuation) → IsValuation (dims_of terms) shown → Shows terms input shown
          → (region : Constraints) (p : Pos) → IsRegion region → region.dims ≡ dims_of terms
          → IsOfFreeTerms terms region → Admits region shown → JudgedSo terms atoms (in_table own)
          → winner_in atoms (in_table own) region ≡ p ∷ []
          → (h : Held Value) × (judging.end ≡ Ok (Some h)) × (h.pos ≡ p)
      held shown valid shows region p is_region dims free admits so wins =
          let truths = decided (in_table own) (holds_at atoms points) in
          let admitted = admits_alike terms region shown points free
          (subst (λ (xs : List Dim). IsValuation xs points) (sym dims) points_valid)
          (alike_at_free env terms input shown (λ i v is. filled_given input values i v is) valid shows) admits in
          let i = winner_held (in_table own) p (admits_none region) (judged_in atoms region (in_table own)) truths.end
          wins (so region points is_region dims admitted) in
          let h = followed (IsOf ds t) judging.end truths.end i.0 i.1 judged in
          (h.0, h.1, h.2 ∙ i.2)
