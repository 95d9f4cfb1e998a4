-- A program's scope has an outcome on each well-typed input, and its values have the types of the outputs.
use Rattle.std.proofs.Common.{Bool, IsTrue, refl, true≢false, ℕ, true, List, [], ◌∷◌, Option, Some, None, Result, Ok}
use Rattle.std.proofs.Common.{Err}
use Rattle.std.proofs.Math.Bool.{Bool-set}
use Rattle.std.proofs.Math.Logic.{∥∥₁_elim}
use Rattle.cat_value.specs.declared.ty.Ty.{Ty}
use Rattle.cat_value.specs.declared.value.Value.{Value}
use Rattle.cat_value.specs.declared.outcome.Outcome.{Outcome}
use Rattle.cat_value.specs.declared.outcome.Outcome.TheVariants as outcome
use Rattle.cat_value.specs.declared.decls.Decls.{Decls}
use Rattle.cat_value.specs.declared.declaration.ItemDecl.{ItemDecl}
use Rattle.cat_value.specs.Typing.{has_type}
use Rattle.cat_value.specs.Inputs.{IsWellTyped, outputs_in}
use Rattle.cat_scope.specs.declared.stop.Stop.{Stop}
use Rattle.cat_scope.specs.declared.stop.Stop.TheVariants as stop
use Rattle.cat_scope.specs.declared.defs.Body.{Body}
use Rattle.cat_scope.specs.Names.{scope_items}
use Rattle.cat_scope.specs.WellFormed.{IsWellFormed}
use Rattle.cat_scope.specs.Calls.{Items}
use Rattle.cat_scope.specs.Running.{run_of}
use Rattle.cat_scope.specs.Outcomes.{outcome_of}
use Rattle.cat_scope.specs.Runs.{Decider, Run}
use Rattle.cat_scope.specs.Judging.{Held}
use Rattle.cat_scope.specs.Targets.{judge_target}
use Rattle.cat_scope.specs.Eval.{eval}
use Rattle.cat_order.specs.Order.{dependencies_of}
use Rattle.cat_scope.specs.Orders.{scope_dependencies}
use Rattle.cat_scope.specs.Names.{AllHave}
use Rattle.cat_sound.specs.Settled.{MayStand, IsClosed, ScopesSettled}
use Rattle.cat_sound.specs.Endings.{Allowed, IsDecision, Ended, EndsIn, AreOf, types_of, AreOutputsOf, IsOutcomeOf}
use Rattle.cat_value.specs.declared.outcome.Target.{Target}
use Rattle.cat_sound.proofs.RunTypes.{run-ends}

AreOf-prop : (ds : Decls) (ts : List Ty) (vs : List Value) → IsProp (AreOf ds ts vs)
AreOf-prop ds [] [] = hlevel Bool-set
AreOf-prop ds [] (v ∷ vs) = hlevel Bool-set
AreOf-prop ds (t ∷ ts) [] = hlevel Bool-set
AreOf-prop ds (t ∷ ts) (v ∷ vs) = hlevel (Bool-set (has_type ds v t) true, AreOf-prop ds ts vs)

pub IsOutcomeOf-prop : (ds : Decls) (items : List ItemDecl) (o : Option Outcome) → IsProp (IsOutcomeOf ds items o)
IsOutcomeOf-prop ds items (Some (outcome.Value outputs)) = AreOf-prop ds (types_of (outputs_in items)) outputs
IsOutcomeOf-prop ds items (Some (outcome.Conflict target positions)) = hlevel Bool-set
IsOutcomeOf-prop ds items (Some (outcome.NoValue target pos)) = hlevel Bool-set
IsOutcomeOf-prop ds items (Some (outcome.Fault fault pos)) = hlevel Bool-set
IsOutcomeOf-prop ds items None = hlevel Bool-set

pub outcome-of : (allowed : Allowed) → (ds : Decls) (items : List ItemDecl) (r : Result (List Value) Stop)
    → Ended allowed (AreOutputsOf ds items) r → IsOutcomeOf ds items (outcome_of r)
outcome-of allowed ds items (Ok outputs) h = h
outcome-of allowed ds items (Err (stop.Conflict target positions)) h = tt
outcome-of allowed ds items (Err (stop.NoValue target pos)) h = tt
outcome-of allowed ds items (Err (stop.Fault fault pos)) h = tt
outcome-of allowed ds items (Err stop.Stuck) h = elim h [ ]

pub everywhere : {A : Type 0} (xs : List A) → AllHave (λ a. IsTrue true) xs
everywhere [] = tt
everywhere (x ∷ xs) = (refl, everywhere xs)

-- nothing is ruled out
abbrev pub anything : Allowed
anything = record { may_stop = λ target. true; may_decide = λ target by. true }

pub any_stands : (target : Target) (r : Result (Option (Held Value)) Stop) → MayStand anything target r
any_stands target (Ok found) = refl
any_stands target (Err s) = tt

-- where every target may stop, and a log may hold anything, nothing is asked of a target
pub programs_go_on : (ds : Decls) (bodies : List Body) (order : List ℕ) (scope : ℕ) (input : Items)
    → ∥ IsWellFormed ds bodies order ∥₁ → IsWellTyped ds scope input
    → IsOutcomeOf ds (scope_items ds scope) (outcome_of (run_of ds.scopes bodies order scope input).end)
programs_go_on ds bodies order scope input formed typed =
    ∥∥₁_elim formed
    (IsOutcomeOf-prop ds (scope_items ds scope) (outcome_of (run_of ds.scopes bodies order scope input).end))
    (λ is. outcome-of anything ds (scope_items ds scope) (run_of ds.scopes bodies order scope input).end
    (run-ends anything (λ k. true) ds bodies order scope input is
    (λ k h. everywhere (dependencies_of (scope_dependencies ds.scopes bodies) k))
    (λ k s body h at body_at env arguments item inner ps t target are stand. record {
      ends = λ stops. absurd (true≢false stops);
      stands = λ none. any_stands (record { scope = k; item = item; inner = inner })
          (judge_target (λ e. eval env e arguments) (record { scope = k; item = item; inner = inner }) body.defs).end;
    }) refl typed).1)

Ended-prop : (allowed : Allowed) (ds : Decls) (items : List ItemDecl) (r : Result (List Value) Stop)
    → IsProp (Ended allowed (AreOutputsOf ds items) r)
Ended-prop allowed ds items (Ok outputs) = AreOf-prop ds (types_of (outputs_in items)) outputs
Ended-prop allowed ds items (Err (stop.Conflict target positions)) = hlevel (Bool-set (allowed.may_stop target) true)
Ended-prop allowed ds items (Err (stop.NoValue target pos)) = hlevel (Bool-set (allowed.may_stop target) true)
Ended-prop allowed ds items (Err (stop.Fault fault pos)) = hlevel Bool-set
Ended-prop allowed ds items (Err stop.Stuck) = hlevel Bool-set

log-prop : (allowed : Allowed) (log : List Decider) → IsProp (AllHave (IsDecision allowed) log)
log-prop allowed [] = hlevel Bool-set
log-prop allowed (d ∷ log) = hlevel (Bool-set (allowed.may_decide d.target d.by) true, log-prop allowed log)

pub EndsIn-prop : (allowed : Allowed) (ds : Decls) (items : List ItemDecl) (run : Run (List Value))
    → IsProp (EndsIn allowed (AreOutputsOf ds items) run)
EndsIn-prop allowed ds items run = hlevel (log-prop allowed run.log, Ended-prop allowed ds items run.end)

-- a run stops only with a fault or at a target that may stop, and its log holds what a log may hold
pub settled_programs : (allowed : Allowed) (within : ℕ → Bool) (ds : Decls) (bodies : List Body) (order : List ℕ)
    (scope : ℕ) (input : Items) → ∥ IsWellFormed ds bodies order ∥₁
    → IsClosed within ds bodies → ScopesSettled allowed within ds bodies → IsTrue (within scope)
    → IsWellTyped ds scope input
    → EndsIn allowed (AreOutputsOf ds (scope_items ds scope)) (run_of ds.scopes bodies order scope input)
settled_programs allowed within ds bodies order scope input formed closed settled inside typed =
    ∥∥₁_elim formed (EndsIn-prop allowed ds (scope_items ds scope) (run_of ds.scopes bodies order scope input))
    (λ is. run-ends allowed within ds bodies order scope input is closed settled inside typed)

-- what is decided is a target of a scope that is called
pub logged_within : (within : ℕ → Bool) (ds : Decls) (bodies : List Body) (order : List ℕ) (scope : ℕ) (input : Items)
    → ∥ IsWellFormed ds bodies order ∥₁
    → IsClosed within ds bodies → IsTrue (within scope) → IsWellTyped ds scope input
    → AllHave (λ d. IsTrue (within d.target.scope)) (run_of ds.scopes bodies order scope input).log
logged_within within ds bodies order scope input formed closed inside typed =
    (settled_programs (record { may_stop = λ target. true; may_decide = λ target by. within target.scope }) within ds
    bodies order scope input formed closed
    (λ k s body here at body_at env arguments item inner ps t target are stand. record {
      ends = λ stops. absurd (true≢false stops);
      stands = λ none. inside_all k here item inner
          (judge_target (λ e. eval env e arguments) (record { scope = k; item = item; inner = inner }) body.defs).end;
    }) inside typed).0
  where
    inside_all : (k : ℕ) → IsTrue (within k) → (item : ℕ) (inner : Option ℕ) (r : Result (Option (Held Value)) Stop)
        → MayStand (record { may_stop = λ target. true; may_decide = λ target by. within target.scope })
        (record { scope = k; item = item; inner = inner }) r
    inside_all k here item inner (Ok found) = here
    inside_all k here item inner (Err s) = tt
