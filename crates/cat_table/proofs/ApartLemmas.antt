-- What is evaluated in the judging of a target stops at no target of its item.
use Rattle.std.proofs.Common.{◌≡◌, ◌∙◌, ℕ, ◌<◌, Bool, true, false, not, ◌&&◌, IsTrue, List, [], ◌∷◌, length, Option}
use Rattle.std.proofs.Common.{Some, None, Result, Ok, Err, slice_get, refl, sym, ap, subst, arith, true≢false}
use Rattle.std.proofs.Common.{if◌then◌else◌}
use Rattle.std.specs.Prelude.{nat_eq}
use Rattle.std.proofs.lemmas.Bool.Decides.{nat_tests}
use Rattle.std.proofs.lemmas.Option.{slice_get_within}
use Rattle.cat_order.specs.Order.{dependencies_of}
use Rattle.cat_value.specs.declared.decls.Decls.{Decls}
use Rattle.cat_value.specs.declared.declaration.ItemDecl.{ItemDecl}
use Rattle.cat_value.specs.declared.declaration.Scope.{Scope}
use Rattle.cat_value.specs.declared.outcome.Target.{Target}
use Rattle.cat_value.specs.declared.ty.Ty.{Ty}
use Rattle.cat_value.specs.declared.value.Value.{Value}
use Rattle.cat_scope.specs.declared.defs.Body.{Body}
use Rattle.cat_scope.specs.declared.defs.Def.{Def}
use Rattle.cat_scope.specs.declared.expr.Expr.{Expr}
use Rattle.cat_scope.specs.declared.stop.Stop.{Stop}
use Rattle.cat_scope.specs.Calls.{Items, Scoped, call, env_of, judging_of, variable, variable_value}
use Rattle.cat_scope.specs.Eval.{Env, eval}
use Rattle.cat_scope.specs.Judging.{Held, Judged}
use Rattle.cat_scope.specs.Mentions.{items_named, scopes_named}
use Rattle.cat_scope.specs.Names.{AllHave, Names, is_in, items_in}
use Rattle.cat_scope.specs.Naming.{IsFunction, IsTargetAt}
use Rattle.cat_scope.specs.Orders.{calls_in, in_condition, in_def, scope_dependencies}
use Rattle.cat_scope.specs.Runs.{Run, behind, plain}
use Rattle.cat_scope.specs.Targets.{absent, judge_target, same_target, value_or}
use Rattle.cat_scope.specs.WellFormed.{IsWellFormed}
use Rattle.cat_sound.specs.Endings.{Allowed, AreOf, AreOutputsOf, Ended, EndsIn, IsCallable, IsEnvOf, IsOf, IsReady}
use Rattle.cat_sound.specs.Settled.{InCondition, IsHeldOf, MayStand, StandsIn}
use Rattle.cat_sound.proofs.Exported.{Ahead, AllIn, Behind, Callee, DefEnds, DoneAt, ahead-of_IsOrder, all-of_IsOrder}
use Rattle.cat_sound.proofs.Exported.{all_at, all_back, all_front, all_more, all_once, anything, body_at, callable}
use Rattle.cat_sound.proofs.Exported.{called-all, function_defined, judge_target-ends, ready, same_some, scopes-at}
use Rattle.cat_sound.proofs.Exported.{Placed, in_at, in_more, scopes-length, settled_programs, stands_end}
use Rattle.cat_guard.proofs.Exported.{all_and, nat_self}
use Rattle.cat_audit_sound.proofs.RunValues.{found, not_true, same_number}
use Rattle.cat_audit_sound.proofs.StandingDefs as standing
use Rattle.cat_audit_sound.proofs.StandingDefs.{body_of, def_callables, defs_stand, given_typed, scope_sound}

-- ---- stops elsewhere

-- any target may stop but those of an item of a scope, and anything may be decided
abbrev pub elsewhere : ℕ → ℕ → Allowed
elsewhere scope item = record {
  may_stop = λ target. not (nat_eq target.scope scope && nat_eq target.item item);
  may_decide = λ target by. true;
}

any_decided : (scope item : ℕ) (target : Target) (r : Result (Option (Held Value)) Stop)
    → MayStand (elsewhere scope item) target r
any_decided scope item target (Ok found) = refl
any_decided scope item target (Err stop) = tt

other_scope : (scope item : ℕ) (target : Target) → nat_eq target.scope scope ≡ false
    → (elsewhere scope item).may_stop target ≡ true
other_scope scope item target differs = ap (λ b. not (b && nat_eq target.item item)) differs

other_item : (scope item : ℕ) (target : Target) → nat_eq target.item item ≡ false
    → (elsewhere scope item).may_stop target ≡ true
other_item scope item target differs =
    ap (λ b. not (nat_eq target.scope scope && b)) differs ∙ by (nat_eq target.scope scope)
  where
    by : (b : Bool) → not (b && false) ≡ true
    by true = refl
    by false = refl

pub not_here : (scope item : ℕ) (inner : Option ℕ)
    → (elsewhere scope item).may_stop (record { scope = scope; item = item; inner = inner }) ≡ false
not_here scope item inner =
    ap (λ b. not (b && nat_eq item item)) (nat_self scope) ∙ ap (λ b. not b) (nat_self item)

-- ---- what stands in front

-- numbers that differ from one
abbrev pub Differ : ℕ → List ℕ → Type 0
Differ n ms = AllHave (λ m. nat_eq m n ≡ false) ms

-- what stands behind its needs has them among what stands there
closed_behind : (bound : ℕ) (needs : ℕ → List ℕ) (before : List ℕ) → Behind bound needs before → (n : ℕ)
    → IsTrue (is_in n before) → AllIn before (needs n)
closed_behind bound needs [] behind n there = not_true there
closed_behind bound needs (m ∷ before) behind n there =
    all_more (λ x. IsTrue (is_in x before)) (λ x. IsTrue (is_in x (m ∷ before))) (needs n)
    (by (nat_eq n m) refl there (closed_behind bound needs before behind.2 n)) (λ x h. in_more x m before h)
  where
    by : (b : Bool) → nat_eq n m ≡ b → IsTrue (if b then true else is_in n before)
        → (IsTrue (is_in n before) → AllIn before (needs n)) → AllIn before (needs n)
    by true e g rest = subst (λ (x : ℕ). AllIn before (needs x)) (sym (same_number n m e)) behind.1
    by false e g rest = rest g

all_below : (bound : ℕ) (needs : ℕ → List ℕ) (before : List ℕ) → Behind bound needs before
    → AllHave (λ n. n < bound) before
all_below bound needs [] behind = tt
all_below bound needs (n ∷ before) behind = (behind.0, all_below bound needs before behind.2)

-- what stands in front of a number in an order
record Front (bound : ℕ) (needs : ℕ → List ℕ) (n : ℕ) : Type 0 where
  before : List ℕ
  behind : Behind bound needs before
  has : AllIn before (needs n)
  differ : Differ n before

front_of : (bound : ℕ) (needs : ℕ → List ℕ) (n : ℕ) (before left : List ℕ) → Behind bound needs before
    → Differ n before → Ahead bound needs before left → IsTrue (is_in n left) → Front bound needs n
front_of bound needs n before [] behind differ ahead there = not_true there
front_of bound needs n before (m ∷ left) behind differ ahead there =
    by (nat_eq n m) refl there
    (λ other. front_of bound needs n (m ∷ before) left (ahead.0, ahead.1, behind) (other, differ) ahead.2)
  where
    turned : (x y : ℕ) → nat_eq x y ≡ false → nat_eq y x ≡ false
    turned x y e = grind (arith, nat_tests)

    by : (b : Bool) → nat_eq n m ≡ b → IsTrue (if b then true else is_in n left)
        → (nat_eq m n ≡ false → IsTrue (is_in n left) → Front bound needs n) → Front bound needs n
    by true e g rest = record {
      before = before;
      behind = behind;
      has = subst (λ (x : ℕ). AllIn before (needs x)) (sym (same_number n m e)) ahead.1;
      differ = differ;
    }
    by false e g rest = rest (turned n m e) g

-- ---- the value of a variable

-- a variable's value stops elsewhere where its judging does
value_elsewhere : (scope item : ℕ) (ds : Decls) (t : Ty) (target : Target) (o : Option ItemDecl)
    (judging : Judged Value) → (elsewhere scope item).may_stop target ≡ true
    → EndsIn (elsewhere scope item) (IsHeldOf true ds t) judging
    → EndsIn anything (IsOf ds t) (variable_value target o judging)
    → EndsIn (elsewhere scope item) (IsOf ds t) (variable_value target o judging)
value_elsewhere scope item ds t target None judging free judged ends = absurd (ends.1)
value_elsewhere scope item ds t target (Some decl) judging free judged ends =
    by judging.end judged.1 ends
  where
    settled : (condition : Bool) (found : Option (Held Value))
        → Ended anything (IsOf ds t) (value_or (absent target decl.pos condition) found)
        → Ended (elsewhere scope item) (IsOf ds t) (value_or (absent target decl.pos condition) found)
    settled condition (Some h) is = is
    settled true None is = is
    settled false None is = free

    by : (r : Result (Option (Held Value)) Stop) → Ended (elsewhere scope item) (IsHeldOf true ds t) r
        → EndsIn anything (IsOf ds t)
        (behind judging.log r (λ found. plain (value_or (absent target decl.pos decl.condition) found)))
        → EndsIn (elsewhere scope item) (IsOf ds t)
        (behind judging.log r (λ found. plain (value_or (absent target decl.pos decl.condition) found)))
    by (Ok found) judged ends = (ends.0, settled decl.condition found ends.1)
    by (Err stop) judged ends = (ends.0, judged)

-- ---- a scope of a program

module _ (ds : Decls) (bodies : List Body) (order : List ℕ) (formed : IsWellFormed ds bodies order) (scope : ℕ)
    (decl : Scope) (body : Body) (there : slice_get ds.scopes scope ≡ Some decl)
    (also : slice_get bodies scope ≡ Some body) (item : ℕ) where
  abbrev here : Allowed
  here = elsewhere scope item

  abbrev names : Names
  names = record { decls = ds; items = decl.items }

  abbrev scoped : Scoped
  scoped = standing.scoped ds bodies order formed scope decl body there also

  abbrev needs : ℕ → List ℕ
  needs = standing.needs ds bodies order formed scope decl body there also

  abbrev deps : List (List ℕ)
  deps = scope_dependencies ds.scopes bodies

  abbrev env : (ℕ → List Value → Run Value) → Items → Env
  env calls values = env_of scoped calls values

  -- ---- the scopes that it calls

  front : Front (length deps) (dependencies_of deps) scope
  front =
      let many = scopes-length ds.scopes bodies formed.counted in
      let within = slice_get_within ds.scopes scope decl there in
      front_of (length deps) (dependencies_of deps) scope [] order tt tt (ahead-of_IsOrder deps order formed.order)
      (all-of_IsOrder deps order formed.order scope (omega (arith, many, within)))

  callee : (s : ℕ) → IsTrue (is_in s front.before) → s < length ds.scopes → Callee here ds scoped.runs s
  callee s inside below =
      let at = found ds.scopes s below in
      let b = body_at ds 0 ds.scopes bodies s formed.bodies_are below in
      record {
        scope = at.0;
        there = at.1;
        placed = subst (λ (x : Scope). AllHave Placed x.items)
            (same_some b.scope at.0 (sym b.scope_is ∙ at.1)) b.is.placed;
        ends = λ input given.
            subst (λ o. EndsIn here (AreOutputsOf ds (items_in o)) (scoped.runs s input)) at.1
            (settled_programs here (λ k. is_in k front.before) ds bodies order s input (∣ formed ∣₁)
            (λ k h. closed_behind (length deps) (dependencies_of deps) front.before front.behind k h)
            (λ k other its_body h known has its_env arguments i inner ps t target are stand. record {
              ends = λ stops. absurd (true≢false (sym (other_scope scope item
                  (record { scope = k; item = i; inner = inner })
                  (in_at (λ m. nat_eq m scope ≡ false) front.before k front.differ h)) ∙ stops));
              stands = λ none. any_decided scope item (record { scope = k; item = i; inner = inner })
                  (judge_target (λ e. eval its_env e arguments) (record { scope = k; item = i; inner = inner })
                  its_body.defs).end;
            }) inside (given_typed ds s at.0 input at.1 given));
      }

  callees : AllHave (Callee here ds scoped.runs) (calls_in decl.items body)
  callees =
      let many = scopes-length ds.scopes bodies formed.counted in
      all_more (λ s. IsTrue (is_in s front.before)) (Callee here ds scoped.runs) (calls_in decl.items body)
      (all_once (λ s. IsTrue (is_in s front.before)) [] (calls_in decl.items body) tt
      (subst (λ (ks : List ℕ). AllIn front.before ks) (scopes-at ds.scopes bodies scope decl body there also)
      front.has))
      (λ s inside.
      let under = in_at (λ n. n < length deps) front.before s
      (all_below (length deps) (dependencies_of deps) front.before front.behind) inside in
      callee s inside (omega (arith, many, under)))

  called : (calls : ℕ → List Value → Run Value) (values : Items)
      → AllHave (λ d. AllHave (IsCallable here names (env calls values)) (in_def scopes_named d)) body.defs
  called calls values =
      all_more (λ d. AllHave (Callee here ds scoped.runs) (in_def scopes_named d))
      (λ d. AllHave (IsCallable here names (env calls values)) (in_def scopes_named d)) body.defs
      (called-all (Callee here ds scoped.runs) decl.items body.source 1 body.defs body.assertions
      (body_of ds bodies order formed scope decl body there also).source callees).by_defs
      (λ d h. callable here ds scoped refl calls values (in_def scopes_named d) h)

  -- ---- its definitions

  -- functions stop elsewhere
  abbrev StopElsewhere : (ℕ → List Value → Run Value) → Type 0
  StopElsewhere calls =
      (k : ℕ) (ps : List Ty) (t : Ty) (vs : List Value) → IsFunction names k ps t → AreOf ds ps vs
      → EndsIn anything (IsOf ds t) (calls k vs) → EndsIn here (IsOf ds t) (calls k vs)

  module _ (calls : ℕ → List Value → Run Value) (values : Items) (go : StopElsewhere calls) where
    ready_here : (k : ℕ) → IsReady anything names (env calls values) k → IsReady here names (env calls values) k
    ready_here k is = record {
      variable = is.variable;
      output = is.output;
      function = λ ps t vs function are. go k ps t vs function are (is.function ps t vs function are);
    }

    env_here : (e : Expr) → IsEnvOf anything names (env calls values) e
        → AllHave (IsCallable here names (env calls values)) (scopes_named e) → IsEnvOf here names (env calls values) e
    env_here e is callables = record {
      items = all_more (IsReady anything names (env calls values)) (IsReady here names (env calls values))
          (items_named e) is.items ready_here;
      scopes = callables;
    }

    condition_here : (o : Option Expr) → InCondition (IsEnvOf anything names (env calls values)) o
        → AllHave (IsCallable here names (env calls values)) (in_condition scopes_named o)
        → InCondition (IsEnvOf here names (env calls values)) o
    condition_here None is callables = tt
    condition_here (Some e) is callables = env_here e is callables

    def_here : (ps : List Ty) (t : Ty) (d : Def) → StandsIn anything names (env calls values) ps t d
        → AllHave (IsCallable here names (env calls values)) (in_def scopes_named d)
        → StandsIn here names (env calls values) ps t d
    def_here ps t d is callables =
        let Called = IsCallable here names (env calls values) in
        let first = in_condition scopes_named d.condition in
        let second = scopes_named d.consequence in
        record {
          condition = is.condition;
          consequence = is.consequence;
          condition_env = condition_here d.condition is.condition_env (all_front Called first second callables);
          consequence_env = env_here d.consequence is.consequence_env (all_back Called first second callables);
        }

    -- the definitions of a target stand so too
    pub defs_here : (target : Target) (ps : List Ty) (t : Ty)
        → AllHave (λ d. IsTrue (same_target d.target target) → StandsIn anything names (env calls values) ps t d)
        body.defs
        → AllHave (λ d. IsTrue (same_target d.target target) → StandsIn here names (env calls values) ps t d) body.defs
    defs_here target ps t stand =
        all_and (λ d. IsTrue (same_target d.target target) → StandsIn anything names (env calls values) ps t d)
        (λ d. AllHave (IsCallable here names (env calls values)) (in_def scopes_named d))
        (λ d. IsTrue (same_target d.target target) → StandsIn here names (env calls values) ps t d) body.defs stand
        (called calls values) (λ d is callables same. def_here ps t d (is same) callables)

  -- ---- its functions

  -- of items that stand in front of one, functions stop elsewhere
  pub functions_elsewhere : (values : Items) (before : List ℕ) → Behind (length decl.items) needs before
      → AllHave (DoneAt names values) before → Differ item before → StopElsewhere (call scoped values before)
  functions_elsewhere values [] behind done differ k ps t vs function are ends = absurd (ends.1)
  functions_elsewhere values (n ∷ before) behind done differ k ps t vs function are ends =
      by (nat_eq n k) refl ends (functions_elsewhere values before behind.2 done.1 differ.1)
    where
      calls : ℕ → List Value → Run Value
      calls = call scoped values before

      judging : Judged Value
      judging = judging_of scoped calls values vs (variable scoped n)

      readies : AllHave (IsReady anything names (env calls values)) (needs n)
      readies =
          all_more (λ m. IsTrue (is_in m before)) (IsReady anything names (env calls values)) (needs n) behind.1
          (λ m inside. ready anything ds scoped needs (scope_sound ds bodies order formed scope decl body there also)
          values before behind.2 done.1 m inside)

      target : n ≡ k → IsTargetAt names n None ps t
      target same =
          let at : slice_get decl.items n ≡ Some function.decl = ap (slice_get decl.items) same ∙ function.decl_is in
          record {
            decl = function.decl;
            decl_is = at;
            defined = function_defined function.decl
                (all_at Placed decl.items n function.decl
                (body_of ds bodies order formed scope decl body there also).placed at) function.function;
            params_are = function.params_are;
            ty_is = function.ty_is;
          }

      judged : StopElsewhere calls → n ≡ k → EndsIn here (IsHeldOf true ds t) judging
      judged go same =
          judge_target-ends here ds t (λ e. eval (env calls values) e vs) (variable scoped n)
          (other_item scope item (variable scoped n) differ.0) body.defs
          (all_more
          (λ d. IsTrue (same_target d.target (variable scoped n)) → StandsIn here names (env calls values) ps t d)
          (λ d. IsTrue (same_target d.target (variable scoped n))
          → DefEnds here ds t (λ e. eval (env calls values) e vs) d) body.defs
          (defs_here calls values go (variable scoped n) ps t
          (defs_stand names scope (env calls values) n None ps t (target same) body.defs
          (body_of ds bodies order formed scope decl body there also).defs
          (def_callables ds bodies order formed scope decl body there also calls values) readies))
          (λ d stands own. stands_end here names (env calls values) ps t vs are d (stands own)))

      by : (b : Bool) → nat_eq n k ≡ b → EndsIn anything (IsOf ds t)
          (if b then variable_value (variable scoped n) (slice_get decl.items n) judging else calls k vs)
          → StopElsewhere calls → EndsIn here (IsOf ds t)
          (if b then variable_value (variable scoped n) (slice_get decl.items n) judging else calls k vs)
      by true e ends go =
          value_elsewhere scope item ds t (variable scoped n) (slice_get decl.items n) judging
          (other_item scope item (variable scoped n) differ.0) (judged go (same_number n k e)) ends
      by false e ends go = go k ps t vs function are ends
