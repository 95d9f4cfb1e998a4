-- The definitions of a target stand in an environment that has what those of its item name, and so a scope of a program
-- is sound.
use Rattle.std.proofs.Common.{◌≡◌, ℕ, ◌<◌, Bool, true, false, IsTrue, List, [], ◌∷◌, ◌++◌, length, Option}
use Rattle.std.proofs.Common.{Some, None, slice_get, refl, sym, ap, ◌∙◌, subst, arith, true≢false, if◌then◌else◌}
use Rattle.std.specs.Prelude.{nat_eq}
use Rattle.std.proofs.lemmas.Option.{slice_get_within}
use Rattle.cat_order.specs.Order.{dependencies_of}
use Rattle.cat_value.specs.declared.ty.Ty.{Ty}
use Rattle.cat_value.specs.declared.value.Value.{Value}
use Rattle.cat_value.specs.declared.decls.Decls.{Decls}
use Rattle.cat_value.specs.declared.outcome.Target.{Target}
use Rattle.cat_value.specs.declared.declaration.Scope.{Scope}
use Rattle.cat_value.specs.Inputs.{are_given_for, is_input_for, is_input_of, IsWellTyped}
use Rattle.cat_scope.specs.declared.expr.Expr.{Expr}
use Rattle.cat_scope.specs.declared.defs.Def.{Def}
use Rattle.cat_scope.specs.declared.defs.Body.{Body}
use Rattle.cat_scope.specs.Names.{Names, AllHave, is_in, items_in}
use Rattle.cat_scope.specs.HasType.{HasType}
use Rattle.cat_scope.specs.Targets.{same_inner, same_target, judge_target}
use Rattle.cat_scope.specs.Eval.{Env, eval}
use Rattle.cat_scope.specs.Orders.{in_condition, in_def, in_defs_of, calls_in, scope_dependencies}
use Rattle.cat_scope.specs.Mentions.{items_named, scopes_named}
use Rattle.cat_scope.specs.WellFormed.{ConditionTyped, DefTyped, IsBodyOf, IsWellFormed}
use Rattle.cat_scope.specs.Naming.{IsTargetAt}
use Rattle.cat_scope.specs.Runs.{Run}
use Rattle.cat_scope.specs.Calls.{Items, Runs, Scoped, env_of}
use Rattle.cat_scope.specs.Running.{run_of, scoped_of}
use Rattle.cat_sound.specs.Endings.{AreOf, AreOutputsOf, EndsIn, IsCallable, IsEnvOf, IsReady}
use Rattle.cat_sound.specs.Settled.{InCondition, StandsIn}
use Rattle.cat_sound.proofs.Exported.{Ahead, Callee, DefEnds, IsSound, JudgingEnds, Placed, ahead-of_IsOrder}
use Rattle.cat_sound.proofs.Exported.{all_once}
use Rattle.cat_sound.proofs.Exported.{all_back, all_front, all_more, any_stands, anything, body_at, callable}
use Rattle.cat_sound.proofs.Exported.{called-all}
use Rattle.cat_sound.proofs.Exported.{everywhere, in_at, judge_target-ends, names_of, all-of_IsOrder, same_some}
use Rattle.cat_sound.proofs.Exported.{scopes-at, scopes-length, settled_programs, stands_end, unique_target}
use Rattle.cat_guard.proofs.Exported.{all_and}
use Rattle.cat_audit_sound.proofs.RunValues.{both, not_true, same_number, found}

inner_is : (a b : Option ℕ) → IsTrue (same_inner a b) → a ≡ b
inner_is None None h = refl
inner_is None (Some b) h = not_true h
inner_is (Some a) None h = not_true h
inner_is (Some a) (Some b) h = ap Some (same_number a b h)

-- what holds of all that the definitions of an item name holds of what each of them names
pub named_by_own : (P : ℕ → Type 0) (item : ℕ) (defs : List Def) → AllHave P (in_defs_of items_named item defs)
    → AllHave (λ d. nat_eq d.target.item item ≡ true → AllHave P (in_def items_named d)) defs
named_by_own P item [] h = tt
named_by_own P item (d ∷ defs) h = by (nat_eq d.target.item item) refl h (named_by_own P item defs)
  where
    by : (b : Bool) → nat_eq d.target.item item ≡ b
        → AllHave P (if b then in_def items_named d ++ in_defs_of items_named item defs else
        in_defs_of items_named item defs)
        → (AllHave P (in_defs_of items_named item defs)
        → AllHave (λ d. nat_eq d.target.item item ≡ true → AllHave P (in_def items_named d)) defs)
        → AllHave (λ d. nat_eq d.target.item item ≡ true → AllHave P (in_def items_named d)) (d ∷ defs)
    by true e h rest = (
      (λ same. all_front P (in_def items_named d) (in_defs_of items_named item defs) h),
      rest (all_back P (in_def items_named d) (in_defs_of items_named item defs) h),
    )
    by false e h rest = ((λ same. absurd (true≢false (sym same ∙ e))), rest h)

-- the parameters and the type of a definition are those of its target
pub target_of_def : (ns : Names) (number item : ℕ) (inner : Option ℕ) (ps : List Ty) (t : Ty) (d : Def)
    → IsTargetAt ns item inner ps t → (typed : DefTyped ns number d)
    → IsTrue (same_target d.target (record { scope = number; item = item; inner = inner }))
    → (typed.params ≡ ps) × (typed.ty ≡ t)
target_of_def ns number item inner ps t d target typed same =
    let two = both (nat_eq d.target.item item) (same_inner d.target.inner inner) same in
    let own : IsTargetAt ns item inner typed.params typed.ty =
    subst (λ o. IsTargetAt ns item o typed.params typed.ty) (inner_is d.target.inner inner two.1)
    (subst (λ (i : ℕ). IsTargetAt ns i d.target.inner typed.params typed.ty)
    (same_number d.target.item item two.0) typed.target) in
    unique_target ns item inner typed.params ps typed.ty t own target

module _ (ns : Names) (number : ℕ) (env : Env) (item : ℕ) (inner : Option ℕ) (ps : List Ty) (t : Ty)
    (target : IsTargetAt ns item inner ps t) where
  condition_stands : (o : Option Expr) → AllHave (IsReady anything ns env) (in_condition items_named o)
      → AllHave (IsCallable anything ns env) (in_condition scopes_named o)
      → InCondition (IsEnvOf anything ns env) o
  condition_stands None ready callees = tt
  condition_stands (Some e) ready callees = record { items = ready; scopes = callees }

  def_stands : (d : Def) → DefTyped ns number d
      → IsTrue (same_target d.target (record { scope = number; item = item; inner = inner }))
      → AllHave (IsReady anything ns env) (in_def items_named d)
      → AllHave (IsCallable anything ns env) (in_def scopes_named d) → StandsIn anything ns env ps t d
  def_stands d typed same ready callees =
      let unique = target_of_def ns number item inner ps t d target typed same in
      record {
        condition = subst (λ us. ConditionTyped ns us d.condition) unique.0 typed.condition;
        consequence =
            subst (λ u. HasType ns ps d.consequence u) unique.1
            (subst (λ us. HasType ns us d.consequence typed.ty) unique.0 typed.consequence);
        condition_env = condition_stands d.condition
            (all_front (IsReady anything ns env) (in_condition items_named d.condition)
            (items_named d.consequence) ready)
            (all_front (IsCallable anything ns env) (in_condition scopes_named d.condition)
            (scopes_named d.consequence) callees);
        consequence_env = record {
          items =
              all_back (IsReady anything ns env) (in_condition items_named d.condition)
              (items_named d.consequence) ready;
          scopes =
              all_back (IsCallable anything ns env) (in_condition scopes_named d.condition)
              (scopes_named d.consequence) callees;
        };
      }

  pub defs_stand : (defs : List Def) → AllHave (DefTyped ns number) defs
      → AllHave (λ d. AllHave (IsCallable anything ns env) (in_def scopes_named d)) defs
      → AllHave (IsReady anything ns env) (in_defs_of items_named item defs)
      → AllHave (λ d. IsTrue (same_target d.target (record { scope = number; item = item; inner = inner }))
      → StandsIn anything ns env ps t d) defs
  defs_stand defs typed callees ready =
      all_and (λ d. DefTyped ns number d × AllHave (IsCallable anything ns env) (in_def scopes_named d))
      (λ d. nat_eq d.target.item item ≡ true → AllHave (IsReady anything ns env) (in_def items_named d))
      (λ d. IsTrue (same_target d.target (record { scope = number; item = item; inner = inner }))
      → StandsIn anything ns env ps t d) defs
      (all_and (DefTyped ns number) (λ d. AllHave (IsCallable anything ns env) (in_def scopes_named d))
      (λ d. DefTyped ns number d × AllHave (IsCallable anything ns env) (in_def scopes_named d)) defs typed callees
      (λ d h k. (h, k)))
      (named_by_own (IsReady anything ns env) item defs ready)
      (λ d two ready_own same. def_stands d two.0 same
      (ready_own (both (nat_eq d.target.item item) (same_inner d.target.inner inner) same).0) two.1)

-- ---- the scopes of a program

needs_below : (bound : ℕ) (needs : ℕ → List ℕ) (before left : List ℕ) → AllHave (λ n. n < bound) before
    → Ahead bound needs before left → (k : ℕ) → IsTrue (is_in k left) → AllHave (λ n. n < bound) (needs k)
needs_below bound needs before [] below h k there = not_true there
needs_below bound needs before (n ∷ left) below h k there =
    by (nat_eq k n) refl there (needs_below bound needs (n ∷ before) left (h.0, below) h.2 k)
  where
    by : (b : Bool) → nat_eq k n ≡ b → IsTrue (if b then true else is_in k left)
        → (IsTrue (is_in k left) → AllHave (λ m. m < bound) (needs k)) → AllHave (λ m. m < bound) (needs k)
    by true e g rest =
        subst (λ (m : ℕ). AllHave (λ x. x < bound) (needs m)) (sym (same_number k n e))
        (all_more (λ m. IsTrue (is_in m before)) (λ m. m < bound) (needs n) h.1
        (λ m inside. in_at (λ x. x < bound) before m below inside))
    by false e g rest = rest g

pub given_typed : (ds : Decls) (s : ℕ) (scope : Scope) (input : Items) → slice_get ds.scopes s ≡ Some scope
    → IsTrue (are_given_for ds scope.items input) → IsWellTyped ds s input
unfolding is_input_of
given_typed ds s scope input e h = rw e h

pub typed_given : (ds : Decls) (s : ℕ) (scope : Scope) (input : Items) → slice_get ds.scopes s ≡ Some scope
    → IsWellTyped ds s input → IsTrue (are_given_for ds scope.items input)
unfolding is_input_of
typed_given ds s scope input e h = by (slice_get ds.scopes s) e h
  where
    by : (o : Option Scope) → o ≡ Some scope → IsTrue (is_input_for ds input o)
        → IsTrue (are_given_for ds scope.items input)
    by None e h = not_true h
    by (Some other) e h =
        subst (λ (x : Scope). IsTrue (are_given_for ds x.items input)) (same_some other scope e) h

module _ (ds : Decls) (bodies : List Body) (order : List ℕ) (formed : IsWellFormed ds bodies order) where
  abbrev runs : Runs
  runs = run_of ds.scopes bodies order

  body_there : (k : ℕ) (scope : Scope) (body : Body) → slice_get ds.scopes k ≡ Some scope
      → slice_get bodies k ≡ Some body → IsBodyOf ds k scope body
  body_there k scope body at also =
      let b = body_at ds 0 ds.scopes bodies k formed.bodies_are (slice_get_within ds.scopes k scope at) in
      subst (λ (s : Scope). IsBodyOf ds k s body) (same_some b.scope scope (sym b.scope_is ∙ at))
      (subst (IsBodyOf ds k b.scope) (same_some b.body body (sym b.body_is ∙ also))
      (subst (λ (n : ℕ). IsBodyOf ds n b.scope b.body) (omega arith) b.is))

  callee : (s : ℕ) → s < length ds.scopes → Callee anything ds runs s
  callee s below =
      let at = found ds.scopes s below in
      let b = body_at ds 0 ds.scopes bodies s formed.bodies_are below in
      record {
        scope = at.0;
        there = at.1;
        placed = subst (λ (x : Scope). AllHave Placed x.items) (same_some b.scope at.0 (sym b.scope_is ∙ at.1))
            b.is.placed;
        ends = λ input given.
            subst (λ o. EndsIn anything (AreOutputsOf ds (items_in o)) (runs s input)) at.1
            (settled_programs anything (λ k. true) ds bodies order s input (∣ formed ∣₁)
            (λ k h. everywhere (dependencies_of (scope_dependencies ds.scopes bodies) k))
            (λ k scope body h there also env arguments item inner ps t target are stand. record {
              ends = λ stops. absurd (true≢false stops);
              stands = λ none. any_stands (record { scope = k; item = item; inner = inner })
                  (judge_target (λ e. eval env e arguments) (record { scope = k; item = item; inner = inner })
                  body.defs).end;
            }) refl (given_typed ds s at.0 input at.1 given));
      }

  module _ (k : ℕ) (scope : Scope) (body : Body) (at : slice_get ds.scopes k ≡ Some scope)
      (also : slice_get bodies k ≡ Some body) where
    pub body_of : IsBodyOf ds k scope body
    body_of = body_there k scope body at also

    abbrev pub scoped : Scoped
    scoped = scoped_of k scope.items body ds.scopes runs

    abbrev pub needs : ℕ → List ℕ
    needs item = in_defs_of items_named item body.defs

    below_all : AllHave (λ s. s < length ds.scopes) (calls_in scope.items body)
    below_all =
        let deps = scope_dependencies ds.scopes bodies in
        let many = scopes-length ds.scopes bodies formed.counted in
        let here : k < length deps = omega (arith, many, slice_get_within ds.scopes k scope at) in
        subst (λ (n : ℕ). AllHave (λ s. s < n) (calls_in scope.items body)) many
        (all_once (λ s. s < length deps) [] (calls_in scope.items body) tt
        (subst (λ (ks : List ℕ). AllHave (λ s. s < length deps) ks)
        (scopes-at ds.scopes bodies k scope body at also)
        (needs_below (length deps) (dependencies_of deps) [] order tt (ahead-of_IsOrder deps order formed.order) k
        (all-of_IsOrder deps order formed.order k here))))

    callees : AllHave (Callee anything ds runs) (calls_in scope.items body)
    callees =
        all_more (λ s. s < length ds.scopes) (Callee anything ds runs) (calls_in scope.items body) below_all callee

    def_callees : AllHave (λ d. AllHave (Callee anything ds runs) (in_def scopes_named d)) body.defs
    def_callees =
        (called-all (Callee anything ds runs) scope.items body.source 1 body.defs body.assertions body_of.source
        callees).by_defs

    -- what definitions of the scope call can be called
    pub def_callables : (calls : ℕ → List Value → Run Value) (values : Items)
        → AllHave (λ d. AllHave (IsCallable anything (names_of ds scoped) (env_of scoped calls values))
        (in_def scopes_named d)) body.defs
    def_callables calls values =
        all_more (λ d. AllHave (Callee anything ds runs) (in_def scopes_named d))
        (λ d. AllHave (IsCallable anything (names_of ds scoped) (env_of scoped calls values)) (in_def scopes_named d))
        body.defs def_callees
        (λ d h. callable anything ds scoped refl calls values (in_def scopes_named d) h)

    judged : (calls : ℕ → List Value → Run Value) (values : Items) (arguments : List Value) (item : ℕ)
        (inner : Option ℕ) (ps : List Ty) (t : Ty) → IsTargetAt (names_of ds scoped) item inner ps t
        → AreOf ds ps arguments
        → AllHave (IsReady anything (names_of ds scoped) (env_of scoped calls values)) (needs item)
        → JudgingEnds anything ds scoped calls values arguments item inner ps t
    judged calls values arguments item inner ps t target are ready =
        let ns = names_of ds scoped in
        let env = env_of scoped calls values in
        let here : Target = record { scope = k; item = item; inner = inner } in
        record {
          ends = judge_target-ends anything ds t (λ e. eval env e arguments) here refl body.defs
              (all_more (λ d. IsTrue (same_target d.target here) → StandsIn anything ns env ps t d)
              (λ d. IsTrue (same_target d.target here) → DefEnds anything ds t (λ e. eval env e arguments) d) body.defs
              (defs_stand ns k env item inner ps t target body.defs body_of.defs (def_callables calls values) ready)
              (λ d stands same. stands_end anything ns env ps t arguments are d (stands same)));
          stands = λ none. any_stands here (judge_target (λ e. eval env e arguments) here body.defs).end;
        }

    pub scope_sound : IsSound anything ds scoped needs
    scope_sound =
        let called = called-all (Callee anything ds runs) scope.items body.source 1 body.defs body.assertions
        body_of.source callees in
        record {
          scopes = refl;
          placed = body_of.placed;
          assertions = body_of.assertions;
          assertion_calls = called.by_assertions;
          item_calls = called.by_items (omega arith);
          judged = judged;
        }
