-- What the laws say, from what a scope's run has covered.
use Rattle.std.proofs.Common.{◌≡◌, ℕ, zero, suc, ◌+◌, Bool, true, false, IsTrue, List, [], ◌∷◌, map}
use Rattle.std.proofs.Common.{length, Option, Some, None, Result, Ok, Err, slice_get, refl, sym, ap, ◌∙◌, subst}
use Rattle.std.proofs.Common.{true≢false, if◌then◌else◌}
use Rattle.std.specs.List.{list_all}
use Rattle.std.proofs.Math.Bool.{Bool-set, beq}
use Rattle.std.proofs.Math.Logic.{∥∥₁_elim}
use Rattle.std.proofs.Props.{props}
use Rattle.cat_value.specs.declared.value.Value.{Value}
use Rattle.cat_value.specs.declared.outcome.Outcome.{Outcome}
use Rattle.cat_value.specs.declared.outcome.Outcome.TheVariants as outcome
use Rattle.cat_value.specs.declared.decls.Decls.{Decls}
use Rattle.cat_value.specs.declared.declaration.ItemDecl.{ItemDecl}
use Rattle.cat_value.specs.declared.declaration.Scope.{Scope}
use Rattle.cat_value.specs.Declarations.{highest}
use Rattle.cat_value.specs.Inputs.{must_be_given, IsWellTyped}
use Rattle.cat_region.specs.declared.dim.Dim.{Dim}
use Rattle.cat_region.specs.declared.narrowing.Narrowing.{Narrowing}
use Rattle.cat_region.specs.declared.point.Point.{Point}
use Rattle.cat_region.specs.Regions.{Constraints, Valuation, IsRegion, IsValuation, Admits, agrees}
use Rattle.cat_scope.specs.declared.stop.Stop.{Stop}
use Rattle.cat_scope.specs.declared.stop.Stop.TheVariants as stop
use Rattle.cat_scope.specs.declared.defs.Body.{Body}
use Rattle.cat_scope.specs.Names.{AllHave, items_in, scope_items}
use Rattle.cat_scope.specs.WellFormed.{IsWellFormed}
use Rattle.cat_scope.specs.Forests.{targets_of}
use Rattle.cat_scope.specs.Calls.{Items}
use Rattle.cat_scope.specs.Running.{entry_at, run_of}
use Rattle.cat_scope.specs.Outcomes.{outcome_of}
use Rattle.cat_sound.specs.Endings.{IsOutcomeOf}
use Rattle.cat_sound.proofs.Exported.{same_some, scopes_by_rule}
use Rattle.cat_guard.specs.declared.table.Atom.{Atom}
use Rattle.cat_guard.specs.declared.table.InputPath.{InputPath}
use Rattle.cat_guard.specs.declared.table.Table.{Table}
use Rattle.cat_guard.specs.declared.table.TableTarget.{TableTarget}
use Rattle.cat_guard.specs.declared.table.Term.{Term}
use Rattle.cat_guard.specs.Judged.{judged_in}
use Rattle.cat_guard.specs.Questions.{Question}
use Rattle.cat_guard.specs.Soundness.{is_sound, target_is_sound}
use Rattle.cat_guard.specs.TableJudging.{Covers}
use Rattle.cat_guard.specs.Tables.{IsTableOf, questions_of, target_of}
use Rattle.cat_guard.specs.Terms.{same_term, terms_of}
use Rattle.cat_guard.specs.Valuations.{dims_of, holds_at}
use Rattle.cat_guard.proofs.Exported.{all_and, both_true, targets_sound}
use Rattle.cat_guard.specs.Judgements.{is_bad}
use Rattle.cat_audit_sound.specs.PointInputs.{given_from, input_at, part_to, point_from, variable}
use Rattle.cat_audit_sound.specs.Failing.{IsFreeTerm, IsOfFreeTerms, Shows, IsAlikeAtFree, HasNoValue}
use Rattle.cat_audit_sound.proofs.CoveredTargets.{IsCoveredAlike, each_covered}
use Rattle.cat_audit_sound.proofs.RunValues.{and_both}
use Rattle.cat_audit_sound.proofs.Lists.{all_mapped, all_of, among_all}
use Rattle.cat_audit_sound.proofs.ScopeTargets.{targets_have}
use Rattle.cat_audit_sound.proofs.StandingDefs.{typed_given}
use Rattle.cat_audit_sound.proofs.TargetGoes.{GuardsTell}

-- a program has a scope of that number, and this is its table
abbrev Tabled : Decls → List Body → ℕ → Table → Type 0
Tabled ds bodies scope table =
    (decl : Scope) × (body : Body) × (slice_get ds.scopes scope ≡ Some decl)
    × (slice_get bodies scope ≡ Some body) × IsTableOf ds scope decl body table

-- ---- a run that ends in a value

values_in : List Value → Outcome → List Value
values_in d (outcome.Value outputs) = outputs
values_in d _ = d

ended_ok : (r : Result (List Value) Stop) (outputs : List Value) → outcome_of r ≡ Some (outcome.Value outputs)
    → r ≡ Ok outputs
unfolding values_in
ended_ok (Ok vs) outputs is = ap (λ o. Ok (values_in [] o)) (same_some (outcome.Value vs) (outcome.Value outputs) is)
ended_ok (Err (stop.Conflict target places)) outputs is = absurd (cc)
ended_ok (Err (stop.NoValue target pos)) outputs is = absurd (cc)
ended_ok (Err (stop.Fault fault pos)) outputs is = absurd (cc)
ended_ok (Err stop.Stuck) outputs is = absurd (cc)

module _ (ds : Decls) (bodies : List Body) (order : List ℕ) (scope : ℕ) (table : Table)
    (tabled : Tabled ds bodies scope table) (sound : IsTrue (is_sound table.terms table.atoms table.targets))
    (self : (q : Question) → same_term q q ≡ true) (tell : GuardsTell) (input : Items)
    (typed : IsWellTyped ds scope input) (shown : Valuation) (valid : IsValuation (dims_of table.terms) shown)
    (shows : Shows table.terms input shown) where
  covered : IsWellFormed ds bodies order → (outputs : List Value)
      → outcome_of (run_of ds.scopes bodies order scope input).end ≡ Some (outcome.Value outputs)
      → AllHave (IsCoveredAlike table.terms table.atoms input shown) table.targets
  covered formed outputs ends =
      let decl = tabled.0 in
      let body = tabled.1 in
      let is = tabled.4 in
      let ok = ended_ok (run_of ds.scopes bodies order scope input).end outputs ends in
      let run = scopes_by_rule ds bodies order (∣ formed ∣₁) scope decl body input tabled.2 tabled.3 in
      let each = each_covered ds bodies order formed scope decl body tabled.2 tabled.3 self tell input
      (typed_given ds scope decl input tabled.2 typed) shown
      (subst (λ (ts : List Term). IsValuation (dims_of ts) shown) is.terms_are valid)
      (subst (λ (ts : List Term). Shows ts input shown) is.terms_are shows) outputs
      (sym (ap (λ r. r.end) run) ∙ ok) in
      all_and (λ t. IsTrue (target_is_sound (length table.atoms) t))
      (λ t. IsTrue (target_is_sound (length table.atoms) t) → IsCoveredAlike table.terms table.atoms input shown t)
      (IsCoveredAlike table.terms table.atoms input shown) table.targets
      (targets_sound table.terms table.atoms table.targets sound)
      (subst (λ (ts : List TableTarget). AllHave (λ t. IsTrue (target_is_sound (length table.atoms) t)
      → IsCoveredAlike table.terms table.atoms input shown t) ts) (sym is.targets_are)
      (subst (λ (ts : List Term). AllHave (λ t. IsTrue (target_is_sound (length table.atoms) t)
      → IsCoveredAlike ts table.atoms input shown t)
      (map (target_of ds decl.items body.defs (questions_of ds body.defs (targets_of ds scope decl.items body.order)))
      (targets_of ds scope decl.items body.order))) (sym is.terms_are)
      (subst (λ (atoms : List Atom). AllHave (λ t. IsTrue (target_is_sound (length atoms) t)
      → IsCoveredAlike (terms_of decl.items
      (questions_of ds body.defs (targets_of ds scope decl.items body.order))) atoms input shown t)
      (map (target_of ds decl.items body.defs (questions_of ds body.defs (targets_of ds scope decl.items body.order)))
      (targets_of ds scope decl.items body.order))) (sym is.atoms_are) each)))
      (λ t h go. go h)

  pub values_cover : ∥ IsWellFormed ds bodies order ∥₁ → (outputs : List Value)
      → outcome_of (run_of ds.scopes bodies order scope input).end ≡ Some (outcome.Value outputs)
      → AllHave (IsCoveredAlike table.terms table.atoms input shown) table.targets
  values_cover formed outputs ends =
      all_of (IsCoveredAlike table.terms table.atoms input shown) table.targets
      (λ t among plain none. ∥∥₁_elim formed (hlevel props)
      (λ is. among_all (IsCoveredAlike table.terms table.atoms input shown) table.targets t (covered is outputs ends)
      among plain none))

-- ---- regions of free terms

pub admits_alike : (terms : List Term) (region : Constraints) (shown v : Valuation) → IsOfFreeTerms terms region
    → IsValuation region.dims v → IsAlikeAtFree terms v shown → Admits region shown → Admits region v
admits_alike terms region shown v free valid alike admits =
    record { valuation = valid; agreeing = each region.narrowings free admits.agreeing }
  where
    each : (ns : List Narrowing) → AllHave (λ n. IsFreeTerm (slice_get terms n.dim)) ns
        → IsTrue (list_all (λ n. agrees (shown n.dim) n) ns) → IsTrue (list_all (λ n. agrees (v n.dim) n) ns)
    each [] h all = refl
    each (n ∷ ns) h all =
        let two = both_true (agrees (shown n.dim) n) (list_all (λ m. agrees (shown m.dim) m) ns) all in
        and_both (agrees (v n.dim) n) (list_all (λ m. agrees (v m.dim) m) ns)
        (ap (λ b. beq b n.yes) (alike n.dim h.0 n.cut) ∙ two.0) (each ns h.1 two.1)

no_value : (ds : Decls) (items : List ItemDecl) (o : Option Outcome) → IsOutcomeOf ds items o
    → ((outputs : List Value) → o ≡ Some (outcome.Value outputs) → ⊥) → HasNoValue o
no_value ds items None is never = is
no_value ds items (Some (outcome.Value outputs)) is never = never outputs refl
no_value ds items (Some (outcome.Conflict target positions)) is never = tt
no_value ds items (Some (outcome.NoValue target pos)) is never = tt
no_value ds items (Some (outcome.Fault kind pos)) is never = tt

-- a target that no valuation covers that has at free terms what is shown
abbrev pub IsNeverCovered : List Term → List Atom → Valuation → TableTarget → Type 0
IsNeverCovered terms atoms shown t =
    (v : Valuation) → IsValuation (dims_of terms) v → IsAlikeAtFree terms v shown → ¬ Covers t (holds_at atoms v)

pub uncovered_fails : (ds : Decls) (items : List ItemDecl) (terms : List Term) (atoms : List Atom)
    (targets : List TableTarget) (input : Items) (o : Option Outcome) (shown : Valuation) → IsOutcomeOf ds items o
    → ((outputs : List Value) → o ≡ Some (outcome.Value outputs)
    → AllHave (IsCoveredAlike terms atoms input shown) targets)
    → AllHave (λ t. t.function ≡ false → entry_at t.target.item input ≡ None → IsNeverCovered terms atoms shown t
    → HasNoValue o) targets
uncovered_fails ds items terms atoms targets input o shown is cover =
    all_of (λ t. t.function ≡ false → entry_at t.target.item input ≡ None → IsNeverCovered terms atoms shown t
    → HasNoValue o) targets
    (λ t among plain none never. no_value ds items o is (λ outputs e. true≢false
    (∥∥₁_elim (among_all (IsCoveredAlike terms atoms input shown) targets t (cover outputs e) among plain none)
    (Bool-set true false) (λ found. absurd (never found.0 found.1 found.2 found.3)))))

-- a region that is judged bad covers nothing that it admits
abbrev pub CoversNothing : List Term → List Atom → TableTarget → Type 0
CoversNothing terms atoms t =
    (region : Constraints) (v : Valuation) → IsRegion region → region.dims ≡ dims_of terms
    → IsTrue (is_bad t.may_be_empty (judged_in atoms region t)) → Admits region v → ¬ Covers t (holds_at atoms v)

pub bad_fails : (terms : List Term) (atoms : List Atom) (targets : List TableTarget) (input : Items)
    (o : Option Outcome) (region : Constraints) (shown : Valuation) → AllHave (CoversNothing terms atoms) targets
    → AllHave (λ t. t.function ≡ false → entry_at t.target.item input ≡ None → IsNeverCovered terms atoms shown t
    → HasNoValue o) targets
    → IsRegion region → region.dims ≡ dims_of terms → IsOfFreeTerms terms region → Admits region shown
    → AllHave (λ t. t.function ≡ false → entry_at t.target.item input ≡ None
    → IsTrue (is_bad t.may_be_empty (judged_in atoms region t)) → HasNoValue o) targets
bad_fails terms atoms targets input o region shown nothing fails is_region dims free admits =
    all_and (CoversNothing terms atoms)
    (λ t. t.function ≡ false → entry_at t.target.item input ≡ None → IsNeverCovered terms atoms shown t → HasNoValue o)
    (λ t. t.function ≡ false → entry_at t.target.item input ≡ None
    → IsTrue (is_bad t.may_be_empty (judged_in atoms region t)) → HasNoValue o) targets nothing fails
    (λ t covers go plain none bad. go plain none (λ v valid alike. covers region v is_region dims bad
    (admits_alike terms region shown v free (subst (λ (ds : List Dim). IsValuation ds v) (sym dims) valid) alike
    admits)))

-- ---- the input of a region's points gives no target

entry_none : (ds : Decls) (points : InputPath → Option Point) (n : ℕ) (items : List ItemDecl) (k : ℕ) (i : ItemDecl)
    → slice_get items k ≡ Some i → must_be_given i.kind ≡ false → entry_at k (given_from ds points n items) ≡ None
entry_none ds points n [] k i at h = refl
entry_none ds points n (j ∷ items) zero i at h =
    by (must_be_given j.kind) (ap (λ (x : ItemDecl). must_be_given x.kind) (same_some j i at) ∙ h)
  where
    by : (b : Bool) → b ≡ false
        → (if b then Some (part_to ds points highest (variable n) j.ty) else None) ≡ None
    by true e = absurd (true≢false e)
    by false e = refl
entry_none ds points n (j ∷ items) (suc k) i at h = entry_none ds points (n + 1) items k i at h

pub points_give_none : (ds : Decls) (bodies : List Body) (scope : ℕ) (table : Table) → Tabled ds bodies scope table
    → (v : Valuation) → AllHave (λ t. entry_at t.target.item (input_at ds table v) ≡ None) table.targets
points_give_none ds bodies scope table tabled v =
    let decl = tabled.0 in
    let body = tabled.1 in
    let is = tabled.4 in
    let targets = targets_of ds scope decl.items body.order in
    let points = point_from v 0 table.terms in
    let items : scope_items ds table.scope ≡ decl.items = ap (scope_items ds) is.scope_is ∙ ap items_in tabled.2 in
    subst (λ (xs : List ItemDecl). AllHave (λ t. entry_at t.target.item (given_from ds points 0 xs) ≡ None)
    table.targets) (sym items)
    (subst (AllHave (λ t. entry_at t.target.item (given_from ds points 0 decl.items) ≡ None)) (sym is.targets_are)
    (all_mapped (λ t. entry_at t.target.item (given_from ds points 0 decl.items) ≡ None)
    (target_of ds decl.items body.defs (questions_of ds body.defs targets)) targets
    (targets_have ds scope decl.items (λ t. entry_at t.item (given_from ds points 0 decl.items) ≡ None) body.order
    (λ index item there i at free open_one. entry_none ds points 0 decl.items item i at open_one)
    (λ index item there i s k x at called has may. entry_none ds points 0 decl.items item i at
    (ap must_be_given called)))))

pub points_fail : (o : Option Outcome) (atoms : List Atom) (targets : List TableTarget) (input : Items)
    (region : Constraints) → AllHave (λ t. entry_at t.target.item input ≡ None) targets
    → AllHave (λ t. t.function ≡ false → entry_at t.target.item input ≡ None
    → IsTrue (is_bad t.may_be_empty (judged_in atoms region t)) → HasNoValue o) targets
    → AllHave (λ t. t.function ≡ false → IsTrue (is_bad t.may_be_empty (judged_in atoms region t)) → HasNoValue o)
    targets
points_fail o atoms targets input region none fails =
    all_and (λ t. entry_at t.target.item input ≡ None)
    (λ t. t.function ≡ false → entry_at t.target.item input ≡ None
    → IsTrue (is_bad t.may_be_empty (judged_in atoms region t)) → HasNoValue o)
    (λ t. t.function ≡ false → IsTrue (is_bad t.may_be_empty (judged_in atoms region t)) → HasNoValue o) targets none
    fails (λ t e go plain bad. go plain e bad)
