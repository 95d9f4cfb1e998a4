-- A run of a scope that ends in a value has covered its targets, at the points of terms in the values of their index.
use Rattle.std.proofs.Common.{◌≡◌, ℕ, zero, suc, ◌<◌, true, false, not, IsTrue, List, [], ◌∷◌, map, length}
use Rattle.std.proofs.Common.{take, Option, Some, None, Ok, slice_get, refl, sym, ap, ◌∙◌, subst, arith, true≢false}
use Rattle.std.proofs.Common.{if◌then◌else◌}
use Rattle.std.proofs.Math.Bool.{Bool-set}
use Rattle.std.proofs.Math.Logic.{∥∥₁_elim}
use Rattle.cat_value.specs.declared.ty.Ty.{Ty}
use Rattle.cat_value.specs.declared.value.Value.{Value}
use Rattle.cat_value.specs.declared.decls.Decls.{Decls}
use Rattle.cat_value.specs.declared.declaration.Kind.{Kind}
use Rattle.cat_value.specs.declared.declaration.Kind.TheVariants as kind
use Rattle.cat_value.specs.declared.declaration.ItemDecl.{ItemDecl}
use Rattle.cat_value.specs.declared.declaration.Scope.{Scope}
use Rattle.cat_value.specs.declared.outcome.Target.{Target}
use Rattle.cat_value.specs.Inputs.{must_be_given, may_be_given, are_given_for}
use Rattle.cat_region.specs.declared.dim.Dim.{Dim}
use Rattle.cat_region.specs.declared.point.Point.{Point}
use Rattle.cat_region.specs.Points.{is_point, answer, default_point}
use Rattle.cat_region.specs.Regions.{Valuation, IsValuation, is_point_of}
use Rattle.cat_scope.specs.declared.defs.Body.{Body}
use Rattle.cat_scope.specs.Replies.{Reply}
use Rattle.cat_scope.specs.Names.{Names, AllHave, IsOneOf, has_none, is_called, scope_items}
use Rattle.cat_scope.specs.Naming.{IsTargetAt, IsOwn}
use Rattle.cat_scope.specs.WellFormed.{IsWellFormed}
use Rattle.cat_scope.specs.Forests.{targets_of}
use Rattle.cat_scope.specs.Judging.{Judged}
use Rattle.cat_scope.specs.Targets.{judge_target}
use Rattle.cat_scope.specs.Eval.{Env, eval}
use Rattle.cat_scope.specs.Calls.{Items, Scoped, call, env_of}
use Rattle.cat_scope.specs.ItemValues.{item_value, ungiven_value}
use Rattle.cat_scope.specs.Running.{backwards, entry_at, run_scoped}
use Rattle.cat_sound.specs.Given.{JudgedAt, values_at}
use Rattle.cat_sound.proofs.Exported.{each_judged, inner_target, same_some}
use Rattle.cat_guard.specs.declared.table.Atom.{Atom}
use Rattle.cat_guard.specs.declared.table.Term.{Term}
use Rattle.cat_guard.specs.declared.table.TableTarget.{TableTarget}
use Rattle.cat_guard.specs.PointValues.{point_of, point_or, point_at}
use Rattle.cat_guard.specs.Questions.{Question}
use Rattle.cat_guard.specs.Soundness.{target_is_sound}
use Rattle.cat_guard.specs.Terms.{same_term, terms_of, atoms_of}
use Rattle.cat_guard.specs.Tables.{questions_of, target_of, inner_items, inner_item, is_condition, condition_or_context}
use Rattle.cat_guard.specs.Tables.{is_function}
use Rattle.cat_guard.specs.TableJudging.{IsCovered, Covers, decided}
use Rattle.cat_guard.specs.Valuations.{dims_of, holds_at}
use Rattle.cat_guard.proofs.Exported.{IsSoundTarget, all_and, sound_parts}
use Rattle.cat_audit_sound.specs.Evaluations.{any_values}
use Rattle.cat_audit_sound.specs.Shown.{AreGiven}
use Rattle.cat_audit_sound.specs.Failing.{IsFreeTerm, Shows, IsAlikeAtFree}
use Rattle.cat_audit_sound.proofs.RunValues.{and_both, as_ok}
use Rattle.cat_audit_sound.proofs.FilledEnvs.{filled_given}
use Rattle.cat_audit_sound.proofs.ListsGo.{covered_goes}
use Rattle.cat_audit_sound.proofs.JudgedAtIndex.{env_at, judged_at_index, stands_at_index}
use Rattle.cat_audit_sound.proofs.JudgedTargets.{variable_covered, inner_covered}
use Rattle.cat_audit_sound.proofs.Lists.{all_mapped}
use Rattle.cat_audit_sound.proofs.Numbered.{all_are}
use Rattle.cat_audit_sound.proofs.PointsOfTerms.{points_in, points_is, term_point}
use Rattle.cat_audit_sound.proofs.ScopeTargets.{targets_have}
use Rattle.cat_audit_sound.proofs.StandingDefs as standing
use Rattle.cat_audit_sound.proofs.StandingDefs.{body_of}
use Rattle.cat_audit_sound.proofs.TargetGoes.{GuardsTell, target_along}

-- ---- the points of free terms

none_some : {A B : Type 0} (a : A) → None ≡ Some a → B
none_some a h = absurd (cc)

point_of_dim : (terms : List Term) (i : ℕ) (term : Term) (x : Point) → slice_get terms i ≡ Some term
    → IsTrue (is_point_of (slice_get (dims_of terms) i) x) → IsTrue (is_point term.dim x)
point_of_dim [] i term x at h = none_some term at
point_of_dim (t ∷ ts) zero term x at h =
    subst (λ (u : Term). IsTrue (is_point u.dim x)) (same_some t term at) h
point_of_dim (t ∷ ts) (suc i) term x at h = point_of_dim ts i term x at h

dims_below : (terms : List Term) (i : ℕ) (term : Term) → slice_get terms i ≡ Some term → i < length (dims_of terms)
dims_below [] i term at = none_some term at
dims_below (t ∷ ts) zero term at = omega arith
dims_below (t ∷ ts) (suc i) term at = let below = dims_below ts i term at in omega (arith, below)

seen_point : (d : Dim) (r : Reply) (v : Value) (x : Point) → r ≡ Ok v → point_of v ≡ Some x → IsTrue (is_point d x)
    → point_at d r ≡ x
seen_point d r v x e f g =
    ap (point_at d) e ∙ ap (point_or d) f ∙ ap (λ b. if b then x else default_point d) g

pub alike_at_free : (env : Env) (terms : List Term) (input : Items) (shown : Valuation) → AreGiven env input
    → IsValuation (dims_of terms) shown → Shows terms input shown → IsAlikeAtFree terms (points_in env terms) shown
alike_at_free env terms input shown given valid shows i free c =
    by (slice_get terms i) refl free
  where
    by : (o : Option Term) → slice_get terms i ≡ o → IsFreeTerm o
        → answer c (points_in env terms i) ≡ answer c (shown i)
    by None e free = elim free [ ]
    by (Some term) e free =
        ∥∥₁_elim (shows env (any_values term.params) i term given e free)
        (Bool-set (answer c (points_in env terms i)) (answer c (shown i)))
        (λ seen. ap (λ o. answer c (term_point env o)) e
        ∙ ap (answer c) (seen_point term.dim (eval env term.expr (any_values term.params)).end seen.0 (shown i) seen.1
        seen.2 (point_of_dim terms i term (shown i) e (valid i (dims_below terms i term e)))))

no_params : {A : Type 0} (ps : List A) → not (has_none ps) ≡ false → ps ≡ []
no_params [] h = refl
no_params (p ∷ ps) h = absurd (true≢false h)

-- a target that is no function, and whose item isn't given, is covered where free terms have what is shown
abbrev pub IsCoveredAlike : List Term → List Atom → Items → Valuation → TableTarget → Type 0
IsCoveredAlike terms atoms input shown t =
    t.function ≡ false → entry_at t.target.item input ≡ None
    → ∥ ((v : Valuation) × IsValuation (dims_of terms) v × IsAlikeAtFree terms v shown
    × Covers t (holds_at atoms v)) ∥₁

module _ (ds : Decls) (bodies : List Body) (order : List ℕ) (formed : IsWellFormed ds bodies order) (scope : ℕ)
    (decl : Scope) (body : Body) (at : slice_get ds.scopes scope ≡ Some decl)
    (also : slice_get bodies scope ≡ Some body) where
  abbrev items : List ItemDecl
  items = decl.items

  abbrev ns : Names
  ns = record { decls = ds; items = items }

  abbrev scoped : Scoped
  scoped = standing.scoped ds bodies order formed scope decl body at also

  abbrev targets : List Target
  targets = targets_of ds scope items body.order

  abbrev qs : List Question
  qs = questions_of ds body.defs targets

  abbrev terms : List Term
  terms = terms_of items qs

  abbrev atoms : List Atom
  atoms = atoms_of qs

  abbrev in_table : Target → TableTarget
  in_table t = target_of ds items body.defs qs t

  module _ (self : (q : Question) → same_term q q ≡ true) (tell : GuardsTell) (input : Items)
      (given : IsTrue (are_given_for ds items input)) (shown : Valuation) (valid : IsValuation (dims_of terms) shown)
      (shows : Shows terms input shown) where
    -- a target that is judged at an index of the order
    module _ (index item : ℕ) (there : slice_get body.order index ≡ Some item) (inner : Option ℕ) (t : Ty)
        (target : IsTargetAt ns item inner [] t)
        (listed : IsOneOf (record { scope = scope; item = item; inner = inner }) targets)
        (sound : IsSoundTarget (in_table (record { scope = scope; item = item; inner = inner })))
        (values : Items) (reached : (values_at scoped input index).end ≡ Ok values) where
      abbrev here : Target
      here = record { scope = scope; item = item; inner = inner }

      abbrev env : Env
      env = env_at ds bodies order formed scope decl body at also input index values

      covers : IsCovered (in_table here).may_be_empty
          (judge_target (λ e. eval (env_of scoped (call scoped values (backwards (take index body.order))) values) e [])
          here body.defs).end
          → Covers (in_table here) (holds_at atoms (points_in env terms))
      covers covered =
          covered_goes (in_table here).may_be_empty (judge_target (λ e. eval env e []) here body.defs).end
          (decided (in_table here) (holds_at atoms (points_in env terms))).end
          (target_along ns scope body.defs (body_of ds bodies order formed scope decl body at also).defs targets env
          self tell item inner t target listed sound
          (stands_at_index ds bodies order formed scope decl body at also input index values given item there reached
          inner t target))
          (subst (λ (j : Judged Value). IsCovered (in_table here).may_be_empty j.end)
          (judged_at_index ds bodies order formed scope decl body at also input index values given item there reached
          inner) covered)

      found : IsCovered (in_table here).may_be_empty
          (judge_target (λ e. eval (env_of scoped (call scoped values (backwards (take index body.order))) values) e [])
          here body.defs).end
          → ∥ ((v : Valuation) × IsValuation (dims_of terms) v × IsAlikeAtFree terms v shown
          × Covers (in_table here) (holds_at atoms v)) ∥₁
      found covered = (∣ (
        points_in env terms,
        points_is ns scope body.defs (body_of ds bodies order formed scope decl body at also).defs targets env,
        alike_at_free env terms input shown (λ i v is. filled_given input values i v is) valid shows,
        covers covered,
      ) ∣₁)

    module _ (outputs : List Value) (ends : (run_scoped scoped input).end ≡ Ok outputs) where
      abbrev Claim : Target → Type 0
      Claim t =
          IsOneOf t targets → IsTrue (target_is_sound (length atoms) (in_table t))
          → IsCoveredAlike terms atoms input shown (in_table t)

      -- what an item that isn't given came to
      ungiven : (index item : ℕ) (i : ItemDecl) (j : JudgedAt scoped input index item) → slice_get items item ≡ Some i
          → entry_at item input ≡ None
          → (ungiven_value scoped (backwards (take index body.order)) j.values item i i.kind).end ≡ as_ok j.value
      ungiven index item i j is none =
          subst (λ o. (item_value scoped (backwards (take index body.order)) j.values item None o).end ≡ as_ok j.value)
          is
          (subst (λ o. (item_value scoped (backwards (take index body.order)) j.values item o
          (slice_get items item)).end ≡ as_ok j.value) none j.is)

      own : (index item : ℕ) → slice_get body.order index ≡ Some item → (i : ItemDecl) → slice_get items item ≡ Some i
          → is_called i.kind ≡ false → must_be_given i.kind ≡ false
          → Claim (record { scope = scope; item = item; inner = None })
      own index item there i is free open_one listed sound plain none =
          let here : Target = record { scope = scope; item = item; inner = None } in
          let empty : i.params ≡ [] = no_params i.params
          (subst (λ o. is_function o None ≡ false) is plain) in
          let j = each_judged scoped input outputs index item ends there in
          let target : IsOwn ns item [] i.ty = record {
            decl = i;
            decl_is = is;
            defined = and_both _ _ (ap not free) (ap not open_one);
            params_are = sym empty;
            ty_is = refl;
          } in
          found index item there None i.ty target listed (sound_parts (length atoms) (in_table here) sound).1 j.values
          j.reached
          (subst (λ o. IsCovered (is_condition o)
          (judge_target (λ e. eval (env_of scoped (call scoped j.values (backwards (take index body.order))) j.values) e
          []) here body.defs).end) (sym is)
          (variable_covered scoped (backwards (take index body.order)) j.values item i j.value empty free
          (ungiven index item i j is none)))

      within : (index item : ℕ) → slice_get body.order index ≡ Some item → (i : ItemDecl) (s k : ℕ) (x : ItemDecl)
          → slice_get items item ≡ Some i → i.kind ≡ kind.Called s → slice_get (scope_items ds s) k ≡ Some x
          → IsTrue (may_be_given x.kind) → Claim (record { scope = scope; item = item; inner = Some k })
      within index item there i s k x is called has may listed sound plain none =
          let here : Target = record { scope = scope; item = item; inner = Some k } in
          let j = each_judged scoped input outputs index item ends there in
          let target = inner_target ns item i s k x is called has may in
          let inner : inner_item ds (slice_get items item) k ≡ Some x = ap (λ o. inner_item ds o k) is
          ∙ ap (λ (n : Kind). slice_get (inner_items ds n) k) called ∙ has in
          found index item there (Some k) x.ty target listed (sound_parts (length atoms) (in_table here) sound).1
          j.values j.reached
          (subst (λ o. IsCovered (condition_or_context o)
          (judge_target (λ e. eval (env_of scoped (call scoped j.values (backwards (take index body.order))) j.values) e
          []) here body.defs).end) (sym inner)
          (inner_covered scoped (backwards (take index body.order)) j.values item i j.value s k x called has may
          (ungiven index item i j is none)))

      pub each_covered : AllHave (λ t. IsTrue (target_is_sound (length atoms) t)
          → IsCoveredAlike terms atoms input shown t) (map in_table targets)
      each_covered =
          all_mapped (λ t. IsTrue (target_is_sound (length atoms) t) → IsCoveredAlike terms atoms input shown t)
          in_table targets
          (all_and (λ t. IsOneOf t targets) Claim
          (λ t. IsTrue (target_is_sound (length atoms) (in_table t)) → IsCoveredAlike terms atoms input shown
          (in_table t)) targets (all_are targets)
          (targets_have ds scope items Claim body.order own within) (λ t among claim. claim among))
