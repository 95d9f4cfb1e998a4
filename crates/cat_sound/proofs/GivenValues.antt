-- A given value stands through the whole run of a scope.
use Rattle.std.proofs.Common.{◌≡◌, ℕ, zero, suc, ◌<◌, Bool, true, false, IsTrue, List, [], ◌∷◌, ◌++◌, length, take}
use Rattle.std.proofs.Common.{drop, Option, Some, None, Result, Ok, Err, slice_get, refl, sym, ap, ◌∙◌, subst, arith}
use Rattle.std.proofs.Common.{if◌then◌else◌}
use Rattle.std.specs.Prelude.{nat_eq, IfOk}
use Rattle.std.proofs.lemmas.Option.{slice_get_within}
use Rattle.std.proofs.lemmas.List.{take-append-drop}
use Rattle.std.proofs.Math.Bool.{Bool-set}
use Rattle.std.proofs.Math.Logic.{∥∥₁_elim}
use Rattle.cat_value.specs.declared.value.Value.{Value}
use Rattle.cat_value.specs.declared.outcome.Outcome.{Outcome}
use Rattle.cat_value.specs.declared.outcome.Outcome.TheVariants as outcome
use Rattle.cat_value.specs.declared.outcome.FaultKind.TheVariants.{AssertionFailed}
use Rattle.cat_value.specs.declared.decls.Decls.{Decls}
use Rattle.cat_value.specs.declared.declaration.ItemDecl.{ItemDecl}
use Rattle.cat_value.specs.declared.declaration.Scope.{Scope}
use Rattle.cat_scope.specs.declared.stop.Stop.{Stop}
use Rattle.cat_scope.specs.declared.stop.Stop.TheVariants as stop
use Rattle.cat_scope.specs.declared.expr.Expr.{Expr}
use Rattle.cat_scope.specs.declared.defs.Body.{Body}
use Rattle.cat_scope.specs.declared.defs.Assertion.{Assertion}
use Rattle.cat_scope.specs.Replies.{known, with_front}
use Rattle.cat_scope.specs.Projections.{truth}
use Rattle.cat_scope.specs.Runs.{Decider, Run, plain, stops, behind, and_then, either}
use Rattle.cat_scope.specs.Names.{is_in, items_in, scope_items}
use Rattle.cat_value.specs.Inputs.{is_output, outputs_in}
use Rattle.cat_scope.specs.Eval.{eval}
use Rattle.cat_scope.specs.Orders.{item_dependencies}
use Rattle.cat_scope.specs.Mentions.{items_named}
use Rattle.cat_scope.specs.WellFormed.{IsWellFormed}
use Rattle.cat_scope.specs.Calls.{Items, Runs, Scoped, env_of, call}
use Rattle.cat_scope.specs.Running.{entry_at, with_entry, run_items, no_values, asserted, outputs_of, moved, backwards}
use Rattle.cat_scope.specs.Running.{run_scoped, run_scope, run, run_of, scoped_of}
use Rattle.cat_scope.specs.ItemValues.{item_value}
use Rattle.cat_scope.specs.Outcomes.{outcome_of}
use Rattle.cat_sound.specs.Given.{values_at, HasValue, output_number}
use Rattle.cat_scope.proofs.Exported.{and_then_and_then}
use Rattle.cat_scope.proofs.Exported.{and_then_same}
use Rattle.cat_sound.proofs.FormTypes.{same_some, same_number, not_true}
use Rattle.cat_sound.proofs.OrderFacts.{all-of_IsOrder, dependencies-length}
use Rattle.cat_sound.proofs.RunTypes.{body_at}
use Rattle.cat_sound.proofs.RunEntries.{with_entry-same, with_entry-other, with_entry-length, no_values-length}

-- ---- what holds of a value, where there is one

abbrev pub IfGives : {A : Type 0} → Run A → (A → Type 0) → Type 0
IfGives run P = IfOk run.end P

if_behind : {A B : Type 0} (P : A → Type 0) (Q : B → Type 0) (log : List Decider) (r : Result A Stop) (next : A → Run B)
    → IfOk r P → ((a : A) → P a → IfGives (next a) Q) → IfGives (behind log r next) Q
if_behind P Q log (Ok a) next h go = go a h
if_behind P Q log (Err stop) next h go = tt

pub if_then : {A B : Type 0} (P : A → Type 0) (Q : B → Type 0) (run : Run A) (next : A → Run B) → IfGives run P
    → ((a : A) → P a → IfGives (next a) Q) → IfGives (and_then run next) Q
if_then P Q run next h go = if_behind P Q run.log run.end next h go

any_value : {A : Type 0} (r : Result A Stop) → IfOk r (λ a. Unit {0})
any_value (Ok a) = tt
any_value (Err stop) = tt

if_and_then : {A B : Type 0} (Q : B → Type 0) (run : Run A) (next : A → Run B) → ((a : A) → IfGives (next a) Q)
    → IfGives (and_then run next) Q
if_and_then Q run next go = if_then (λ a. Unit {0}) Q run next (any_value run.end) (λ a h. go a)

if_either : {A : Type 0} (P : A → Type 0) (t : Result Bool Stop) (one other : Run A) → IfGives one P → IfGives other P
    → IfGives (either t one other) P
if_either P (Ok true) one other h g = h
if_either P (Ok false) one other h g = g
if_either P (Err stop) one other h g = tt

if_asserted : {A : Type 0} (P : A → Type 0) (value : Expr → Run Value) (assertions : List Assertion) (last : Run A)
    → IfGives last P → IfGives (asserted value assertions last) P
if_asserted P value [] last h = h
if_asserted P value (a ∷ rest) last h =
    if_and_then P (value a.condition) _ (λ t. if_either P (truth t) (asserted value rest last)
    (stops (stop.Fault AssertionFailed a.keyword)) (if_asserted P value rest last h) tt)

-- ---- the run of items

pub run-append : (scoped : Scoped) (input : Items) (before : List ℕ) (values : Items) (front back : List ℕ)
    → run_items scoped input before values (front ++ back) ≡ and_then (run_items scoped input before values front)
    (λ vs. run_items scoped input (moved before front) vs back)
run-append scoped input before values [] back = refl
run-append scoped input before values (item ∷ front) back =
    and_then_same (item_value scoped before values item (entry_at item input) (slice_get scoped.items item)) _ _
    (λ v. run-append scoped input (item ∷ before) (with_entry item v values) front back)
    ∙ sym (and_then_and_then (item_value scoped before values item (entry_at item input) (slice_get scoped.items item))
    (λ v. run_items scoped input (item ∷ before) (with_entry item v values) front)
    (λ vs. run_items scoped input (moved (item ∷ before) front) vs back))

-- the run of the whole order goes through the values with which each item is evaluated
pub run_through : (scoped : Scoped) (input : Items) (index : ℕ)
    → run_items scoped input [] (no_values scoped.items) scoped.order
    ≡ and_then (values_at scoped input index)
    (λ values. run_items scoped input (backwards (take index scoped.order)) values
    (drop index scoped.order))
run_through scoped input index =
    ap (run_items scoped input [] (no_values scoped.items)) (sym (take-append-drop index scoped.order))
    ∙ run-append scoped input [] (no_values scoped.items) (take index scoped.order) (drop index scoped.order)

module _ (scoped : Scoped) (input : Items) (item : ℕ) (v : Value) (given : entry_at item input ≡ Some v) where
  -- the item has its value once it is evaluated
  evaluated : (before : List ℕ) (values : Items) → item < length values
      → IfGives (item_value scoped before values item (entry_at item input) (slice_get scoped.items item))
      (λ w. HasValue item v (with_entry item w values))
  evaluated before values below =
      subst (λ o. IfGives (item_value scoped before values item o (slice_get scoped.items item))
      (λ w. HasValue item v (with_entry item w values))) (sym given) (with_entry-same item (Some v) values below)

  kept : (left before : List ℕ) (values : Items) → HasValue item v values
      → IfGives (run_items scoped input before values left) (HasValue item v)
  kept [] before values has = has
  kept (x ∷ left) before values has = by (nat_eq x item) refl (λ w. kept left (x ∷ before) (with_entry x w values))
    where
      by : (b : Bool) → nat_eq x item ≡ b → ((w : Option Value) → HasValue item v (with_entry x w values)
          → IfGives (run_items scoped input (x ∷ before) (with_entry x w values) left) (HasValue item v))
          → IfGives (run_items scoped input before values (x ∷ left)) (HasValue item v)
      by true e rest =
          if_then (λ w. HasValue item v (with_entry x w values)) (HasValue item v)
          (item_value scoped before values x (entry_at x input) (slice_get scoped.items x)) _
          (subst (λ (y : ℕ). IfGives (item_value scoped before values y (entry_at y input) (slice_get scoped.items y))
          (λ w. HasValue item v (with_entry y w values))) (sym (same_number x item e))
          (evaluated before values (slice_get_within values item (Some v) has)))
          rest
      by false e rest =
          if_and_then (HasValue item v) (item_value scoped before values x (entry_at x input)
          (slice_get scoped.items x)) _ (λ w. rest w (with_entry-other x item w values e ∙ has))

  reached : (left before : List ℕ) (values : Items) → IsTrue (is_in item left) → item < length values
      → IfGives (run_items scoped input before values left) (HasValue item v)
  reached [] before values there below = not_true there
  reached (x ∷ left) before values there below =
      by (nat_eq item x) refl there (λ w. kept left (x ∷ before) (with_entry x w values))
      (λ w within. reached left (x ∷ before) (with_entry x w values) within (longer x w))
    where
      longer : (x : ℕ) (w : Option Value) → item < length (with_entry x w values)
      longer x w = omega (arith, with_entry-length x w values, below)

      by : (b : Bool) → nat_eq item x ≡ b → IsTrue (if b then true else is_in item left)
          → ((w : Option Value) → HasValue item v (with_entry x w values)
          → IfGives (run_items scoped input (x ∷ before) (with_entry x w values) left) (HasValue item v))
          → ((w : Option Value) → IsTrue (is_in item left)
          → IfGives (run_items scoped input (x ∷ before) (with_entry x w values) left) (HasValue item v))
          → IfGives (run_items scoped input before values (x ∷ left)) (HasValue item v)
      by true e g one other =
          if_then (λ w. HasValue item v (with_entry x w values)) (HasValue item v)
          (item_value scoped before values x (entry_at x input) (slice_get scoped.items x)) _
          (subst (λ (y : ℕ). IfGives (item_value scoped before values y (entry_at y input) (slice_get scoped.items y))
          (λ w. HasValue item v (with_entry y w values))) (same_number item x e)
          (evaluated before values below))
          one
      by false e g one other = if_and_then (HasValue item v) (item_value scoped before values x (entry_at x input)
          (slice_get scoped.items x)) _ (λ w. other w g)

-- behind its index in the order a given item has its value in the environment of each item
pub given_stands : (scoped : Scoped) (input : Items) (index item : ℕ) (v : Value) → item < length scoped.items
    → IsTrue (is_in item (take index scoped.order)) → entry_at item input ≡ Some v
    → IfGives (values_at scoped input index) (HasValue item v)
given_stands scoped input index item v below there given =
    reached scoped input item v given (take index scoped.order) [] (no_values scoped.items) there
    (omega (arith, no_values-length scoped.items, below))

-- ---- the outputs

abbrev IsOutputOf : ℕ → Value → List Value → Type 0
IsOutputOf k v outputs = slice_get outputs k ≡ Some v

first_output : (item : ItemDecl) (items : List ItemDecl) (w : Option Value) (v : Value)
    (rest : Result (List Value) Stop) → w ≡ Some v → IfOk (with_front (known w) rest) (IsOutputOf 0 v)
first_output item items None v rest is = absurd (cc)
first_output item items (Some w) v (Ok more) is = is
first_output item items (Some w) v (Err s) is = tt

later_output : (w : Option Value) (k : ℕ) (v : Value) (rest : Result (List Value) Stop) → IfOk rest (IsOutputOf k v)
    → IfOk (with_front (known w) rest) (IsOutputOf (suc k) v)
later_output None k v rest h = tt
later_output (Some w) k v (Ok more) h = h
later_output (Some w) k v (Err s) h = tt

output_has : (items : List ItemDecl) (values : Items) (k : ℕ) (decl : ItemDecl) (v : Value) → slice_get items k ≡ Some
    decl → IsTrue (is_output decl.kind) → HasValue k v values
    → IfOk (outputs_of items values) (IsOutputOf (output_number items k) v)
output_has [] values k decl v is out has = absurd (cc)
output_has (item ∷ items) [] k decl v is out has = absurd (cc)
output_has (item ∷ items) (w ∷ values) zero decl v is out has =
    by (is_output item.kind) (subst (λ (i : ItemDecl). IsTrue (is_output i.kind)) (sym (same_some item decl is)) out)
  where
    by : (b : Bool) → IsTrue b → IfOk (if b then with_front (known w) (outputs_of items values) else
        outputs_of items values) (IsOutputOf 0 v)
    by true e = first_output item items w v (outputs_of items values) (same_some w (Some v) has)
    by false e = not_true e
output_has (item ∷ items) (w ∷ values) (suc k) decl v is out has =
    by (is_output item.kind) (output_has items values k decl v is out has)
  where
    by : (b : Bool) → IfOk (outputs_of items values) (IsOutputOf (output_number items k) v)
        → IfOk (if b then with_front (known w) (outputs_of items values) else outputs_of items values)
        (IsOutputOf (length (if b then item ∷ outputs_in (take k items) else outputs_in (take k items))) v)
    by true rest = later_output w (output_number items k) v (outputs_of items values) rest
    by false rest = rest

run_has : (scoped : Scoped) (input : Items) (item : ℕ) (decl : ItemDecl) (v : Value) → slice_get scoped.items item
    ≡ Some decl → IsTrue (is_output decl.kind) → IsTrue (is_in item scoped.order) → entry_at item input ≡ Some v
    → IfGives (run_scoped scoped input) (IsOutputOf (output_number scoped.items item) v)
run_has scoped input item decl v is out there given =
    if_then (HasValue item v) (IsOutputOf (output_number scoped.items item) v)
    (run_items scoped input [] (no_values scoped.items) scoped.order) _
    (reached scoped input item v given scoped.order [] (no_values scoped.items) there
    (omega (arith, no_values-length scoped.items, slice_get_within scoped.items item decl is)))
    (λ values has. if_asserted (IsOutputOf (output_number scoped.items item) v)
    (λ e. eval (env_of scoped (call scoped values (backwards scoped.order)) values) e []) scoped.assertions
    (plain (outputs_of scoped.items values))
    (output_has scoped.items values item decl v is out has))

-- ---- programs

scope_has : (ds : Decls) (runs : Runs) (s : ℕ) (o : Option Scope) (b : Option Body) (input : Items) (item : ℕ)
    (decl : ItemDecl) (v : Value) → slice_get (items_in o) item ≡ Some decl → IsTrue (is_output decl.kind)
    → ((body : Body) → b ≡ Some body → IsTrue (is_in item body.order)) → entry_at item input ≡ Some v
    → IfGives (run_scope ds.scopes runs s o b input) (IsOutputOf (output_number (items_in o) item) v)
scope_has ds runs s None b input item decl v is out there given = absurd (cc)
scope_has ds runs s (Some scope) None input item decl v is out there given = tt
scope_has ds runs s (Some scope) (Some body) input item decl v is out there given =
    run_has (scoped_of s scope.items body ds.scopes runs) input item decl v is out (there body refl) given

runs_have : (ds : Decls) (bodies : List Body) (before : List ℕ) (s : ℕ) (input : Items) (item : ℕ) (decl : ItemDecl)
    (v : Value) → slice_get (scope_items ds s) item ≡ Some decl → IsTrue (is_output decl.kind)
    → ((body : Body) → slice_get bodies s ≡ Some body → IsTrue (is_in item body.order)) → entry_at item input ≡ Some v
    → IfGives (run ds.scopes bodies before s input) (IsOutputOf (output_number (scope_items ds s) item) v)
runs_have ds bodies [] s input item decl v is out there given = tt
runs_have ds bodies (n ∷ before) s input item decl v is out there given =
    by (nat_eq n s) refl (runs_have ds bodies before s input item decl v is out there given)
  where
    by : (b : Bool) → nat_eq n s ≡ b → IfGives (run ds.scopes bodies before s input)
        (IsOutputOf (output_number (scope_items ds s) item) v)
        → IfGives (if b then run_scope ds.scopes (run ds.scopes bodies before) n (slice_get ds.scopes n)
        (slice_get bodies n) input else run ds.scopes bodies before s input)
        (IsOutputOf (output_number (scope_items ds s) item) v)
    by true e rest =
        subst (λ (m : ℕ). IfGives (run_scope ds.scopes (run ds.scopes bodies before) m (slice_get ds.scopes m)
        (slice_get bodies m) input) (IsOutputOf (output_number (scope_items ds s) item) v)) (sym (same_number n s e))
        (scope_has ds (run ds.scopes bodies before) s (slice_get ds.scopes s) (slice_get bodies s) input item decl v is
        out there given)
    by false e rest = rest

-- each item stands in the order of its scope
listed : (ds : Decls) (bodies : List Body) (order : List ℕ) (s item : ℕ) (decl : ItemDecl) → IsWellFormed ds bodies
    order → slice_get (scope_items ds s) item ≡ Some decl → (body : Body) → slice_get bodies s ≡ Some body
    → IsTrue (is_in item body.order)
listed ds bodies order s item decl formed is body there =
    let at = body_at ds 0 ds.scopes bodies s formed.bodies_are
    (omega (arith, formed.counted, slice_get_within bodies s body there)) in
    let same : at.body ≡ body = same_some at.body body (sym at.body_is ∙ there) in
    let here : slice_get at.scope.items item ≡ Some decl = sym (ap (λ o. slice_get (items_in o) item) at.scope_is)
    ∙ is in
    subst (λ (b : Body). IsTrue (is_in item b.order)) same
    (all-of_IsOrder (item_dependencies at.scope.items at.body.defs) at.body.order at.is.order item
    (omega (
      arith,
      dependencies-length items_named at.body.defs 0 at.scope.items,
      slice_get_within at.scope.items item
          decl here,
    )))

values_in : List Value → Outcome → List Value
values_in d (outcome.Value outputs) = outputs
values_in d _ = d

outputs-of : (r : Result (List Value) Stop) (outputs : List Value) (P : List Value → Type 0) → IfOk r P
    → outcome_of r ≡ Some (outcome.Value outputs) → P outputs
unfolding values_in
outputs-of (Ok vs) outputs P h is =
    subst P (ap (values_in []) (same_some (outcome.Value vs) (outcome.Value outputs) is)) h
outputs-of (Err (stop.Conflict target places)) outputs P h is = absurd (cc)
outputs-of (Err (stop.NoValue target pos)) outputs P h is = absurd (cc)
outputs-of (Err (stop.Fault fault pos)) outputs P h is = absurd (cc)
outputs-of (Err stop.Stuck) outputs P h is = absurd (cc)

pub given_outputs_stand : (ds : Decls) (bodies : List Body) (order : List ℕ) (s : ℕ) (input : Items) (item : ℕ)
    (decl : ItemDecl) (v : Value) (outputs : List Value) → ∥ IsWellFormed ds bodies order ∥₁
    → slice_get (scope_items ds s) item ≡ Some decl → IsTrue (is_output decl.kind) → entry_at item input ≡ Some v
    → outcome_of (run_of ds.scopes bodies order s input).end ≡ Some (outcome.Value outputs)
    → slice_get outputs (output_number (scope_items ds s) item) ≡ Some v
unfolding run_of
given_outputs_stand ds bodies order s input item decl v outputs formed is out given ends =
    outputs-of (run ds.scopes bodies (backwards order) s input).end outputs
    (IsOutputOf (output_number (scope_items ds s) item) v)
    (runs_have ds bodies (backwards order) s input item decl v is out
    (λ body there. ∥∥₁_elim formed (Bool-set (is_in item body.order) true)
    (λ whole. listed ds bodies order s item decl whole is body there)) given)
    ends
