-- The run of a scope, and of a program's scopes, ends in values of the types of its outputs, or in a stop that an
-- outcome may be.
use Rattle.std.proofs.Common.{◌≡◌, ℕ, zero, suc, ◌+◌, ◌<◌, Bool, IsTrue, List, [], ◌∷◌}
use Rattle.std.proofs.Common.{length, Some, slice_get, refl, sym, ap, ◌∙◌, subst, arith}
use Rattle.std.proofs.lemmas.Option.{slice_get_within}
use Rattle.cat_value.specs.declared.decls.Decls.{Decls}
use Rattle.cat_value.specs.declared.declaration.ItemDecl.{ItemDecl}
use Rattle.cat_value.specs.declared.declaration.Scope.{Scope}
use Rattle.cat_value.specs.Inputs.{are_given_for}
use Rattle.cat_value.specs.Inputs.{IsWellTyped}
use Rattle.cat_order.specs.Order.{dependencies_of}
use Rattle.cat_scope.specs.declared.defs.Def.{Def}
use Rattle.cat_scope.specs.declared.defs.Body.{Body}
use Rattle.cat_scope.specs.declared.defs.Assertion.{Assertion}
use Rattle.cat_scope.specs.declared.defs.SourcePart.{SourcePart}
use Rattle.cat_scope.specs.declared.defs.SourcePart.TheVariants as part
use Rattle.cat_scope.specs.Names.{AllHave, scope_items}
use Rattle.cat_scope.specs.Orders.{in_def, in_defs_of, called_by_items, called_in}
use Rattle.cat_scope.specs.Orders.{calls_in, scope_dependencies}
use Rattle.cat_scope.specs.Mentions.{items_named, scopes_named}
use Rattle.cat_scope.specs.WellFormed.{IsWhole, IsBodyOf, AreBodiesOf, IsWellFormed}
use Rattle.cat_scope.specs.Calls.{Items, Runs}
use Rattle.cat_scope.specs.Running.{run_scope, run_of, scoped_of}
use Rattle.cat_sound.specs.Settled.{IsClosed, ScopesSettled}
use Rattle.cat_sound.specs.Endings.{Allowed, EndsIn, AreOutputsOf}
use Rattle.cat_sound.proofs.Results.{all_front, all_back}
use Rattle.cat_sound.proofs.Endings.{ends_as}
use Rattle.cat_sound.proofs.FormTypes.{same_some}
use Rattle.cat_sound.proofs.OrderFacts.{Ahead}
use Rattle.cat_sound.proofs.OrderFacts.{ahead-of_IsOrder, all-of_IsOrder, ahead_as}
use Rattle.cat_sound.proofs.OrderFacts.{scopes-length, scopes-at, all_once, items_ahead, items_listed}
use Rattle.cat_sound.proofs.DefsJudged.{defs-judged}
use Rattle.cat_sound.proofs.PlacedRuns.{all_runs-end}
use Rattle.cat_sound.proofs.InputTypes.{Placed, Callee}
use Rattle.cat_sound.proofs.ScopeRuns.{run_scoped-ends}

-- ---- the scopes of a program

-- what a source calls is what its declaration, its definitions and its assertions call
pub record AreCalled (P : ℕ → Type 0) (items : List ItemDecl) (n : ℕ) (defs : List Def) (assertions : List Assertion) :
    Type 0 where
  pub by_items : 0 < n → AllHave P (called_by_items items)
  pub by_defs : AllHave (λ d. AllHave P (in_def scopes_named d)) defs
  pub by_assertions : AllHave (λ a. AllHave P (scopes_named a.condition)) assertions

pub called-all : (P : ℕ → Type 0) (items : List ItemDecl) (source : List SourcePart) (n : ℕ) (defs : List Def)
    (assertions : List Assertion)
    → IsWhole source n (length defs) (length assertions)
    → AllHave P (called_in items source defs assertions) → AreCalled P items n defs assertions
called-all P items [] n [] [] whole h =
    let none = whole.0 in record { by_items = λ some. absurd (omega arith); by_defs = tt; by_assertions = tt }
called-all P items [] n [] (a ∷ assertions) whole h = let none = whole.2 in absurd (omega arith)
called-all P items [] n (d ∷ defs) assertions whole h = let none = whole.1 in absurd (omega arith)
called-all P items (part.Declaration ∷ source) zero defs assertions whole h = elim whole [ ]
called-all P items (part.Declaration ∷ source) (suc n) defs assertions whole h =
    let rest = called-all P items source n defs assertions whole
    (all_back P (called_by_items items) (called_in items source defs assertions) h) in
    record {
      by_items = λ some. all_front P (called_by_items items)
          (called_in items source defs assertions) h;
      by_defs = rest.by_defs;
      by_assertions = rest.by_assertions;
    }
called-all P items (part.Condition e ∷ source) n defs assertions whole h =
    called-all P items source n defs assertions whole
    (all_back P (scopes_named e) (called_in items source defs assertions) h)
called-all P items (part.Definition ∷ source) n [] assertions whole h = elim whole [ ]
called-all P items (part.Definition ∷ source) n (d ∷ defs) assertions whole h =
    let rest = called-all P items source n defs assertions whole
    (all_back P (in_def scopes_named d) (called_in items source defs assertions) h) in
    record {
      by_items = rest.by_items;
      by_defs =
          (all_front P (in_def scopes_named d) (called_in items source defs assertions) h, rest.by_defs);
      by_assertions =
          rest.by_assertions;
    }
called-all P items (part.Assertion ∷ source) n defs [] whole h = elim whole [ ]
called-all P items (part.Assertion ∷ source) n defs (a ∷ assertions) whole h =
    let rest = called-all P items source n defs assertions whole
    (all_back P (scopes_named a.condition) (called_in items source defs assertions) h) in
    record {
      by_items = rest.by_items;
      by_defs = rest.by_defs;
      by_assertions =
          (all_front P (scopes_named a.condition) (called_in items source defs assertions) h, rest.by_assertions);
    }

-- a scope with its body, by its number
pub record BodyAt (ds : Decls) (n : ℕ) (scopes : List Scope) (bodies : List Body) (k : ℕ) : Type 0 where
  pub scope : Scope
  pub body : Body
  pub scope_is : slice_get scopes k ≡ Some scope
  pub body_is : slice_get bodies k ≡ Some body
  pub is : IsBodyOf ds (n + k) scope body

pub body_at : (ds : Decls) (n : ℕ) (scopes : List Scope) (bodies : List Body) (k : ℕ) → AreBodiesOf ds n scopes bodies
    → k < length scopes → BodyAt ds n scopes bodies k
body_at ds n [] bodies k are below = absurd (omega arith)
body_at ds n (scope ∷ scopes) [] k are below = elim are [ ]
body_at ds n (scope ∷ scopes) (body ∷ bodies) zero are below =
    record {
      scope = scope;
      body = body;
      scope_is = refl;
      body_is = refl;
      is = subst
          (λ (m : ℕ). IsBodyOf ds m scope body) (omega arith) are.0;
    }
body_at ds n (scope ∷ scopes) (body ∷ bodies) (suc k) are below =
    let rest = body_at ds (n + 1) scopes bodies k are.1 (omega arith) in
    record {
      scope = rest.scope;
      body = rest.body;
      scope_is = rest.scope_is;
      body_is = rest.body_is;
      is = subst
          (λ (m : ℕ). IsBodyOf ds m rest.scope rest.body) (omega arith) rest.is;
    }

module _ (allowed : Allowed) (within : ℕ → Bool) (ds : Decls) (bodies : List Body)
    (are : AreBodiesOf ds 0 ds.scopes bodies) (settled : ScopesSettled allowed within ds bodies) where
  abbrev calls : ℕ → List ℕ
  calls k = dependencies_of (scope_dependencies ds.scopes bodies) k

  run_scope-ends : (runs : Runs) (k : ℕ) → IsTrue (within k) → (at : BodyAt ds 0 ds.scopes bodies k)
      → AllHave (Callee allowed ds runs) (calls k) → (input : Items)
      → IsTrue (are_given_for ds at.scope.items input) → EndsIn allowed (AreOutputsOf ds at.scope.items)
      (run_scope ds.scopes runs k (Some at.scope) (Some at.body) input)
  run_scope-ends runs k here at callees input given =
      let is : IsBodyOf ds k at.scope at.body = subst (λ (m : ℕ). IsBodyOf ds m at.scope at.body) (omega arith) at.is in
      let those = all_once (Callee allowed ds runs) [] (calls_in at.scope.items at.body) tt
      (subst (λ (ks : List ℕ). AllHave (Callee allowed ds runs) ks)
      (scopes-at ds.scopes bodies k at.scope at.body at.scope_is at.body_is) callees) in
      let called = called-all
      (Callee allowed ds runs) at.scope.items at.body.source 1 at.body.defs at.body.assertions is.source those in
      run_scoped-ends allowed ds (scoped_of k at.scope.items at.body ds.scopes runs)
      (λ item. in_defs_of items_named item at.body.defs)
      (record {
        scopes = refl;
        placed = is.placed;
        assertions = is.assertions;
        assertion_calls = called.by_assertions;
        item_calls = called.by_items (omega arith);
        judged = defs-judged allowed ds k at.scope.items at.body ds.scopes runs refl is.defs called.by_defs
            (settled k at.scope at.body here at.scope_is at.body_is);
      }) input given
      (items_ahead at.scope.items at.body.defs at.body.order is.order)
      (items_listed at.scope.items at.body.defs at.body.order is.order)

  one_ends : (runs : Runs) (k : ℕ) (scope : Scope) → slice_get ds.scopes k ≡ Some scope → IsTrue (within k)
      → AllHave (Callee allowed ds runs) (calls k) → (input : Items) → IsTrue (are_given_for ds scope.items input)
      → EndsIn allowed (AreOutputsOf ds scope.items)
      (run_scope ds.scopes runs k (slice_get ds.scopes k) (slice_get bodies k) input)
  one_ends runs k scope is here callees input given =
      let at = body_at ds 0 ds.scopes bodies k are (slice_get_within ds.scopes k scope is) in
      let same : at.scope ≡ scope = same_some at.scope scope (sym at.scope_is ∙ is) in
      ends_as allowed (AreOutputsOf ds scope.items)
      (run_scope ds.scopes runs k (slice_get ds.scopes k) (slice_get bodies k) input)
      (run_scope ds.scopes runs k (Some at.scope) (Some at.body) input)
      (ap (λ o. run_scope ds.scopes runs k o (slice_get bodies k) input) at.scope_is
      ∙ ap (λ o. run_scope ds.scopes runs k (Some at.scope) o input) at.body_is)
      (subst (λ (x : Scope). EndsIn allowed (AreOutputsOf ds x.items)
      (run_scope ds.scopes runs k (Some at.scope) (Some at.body) input)) same
      (run_scope-ends runs k here at callees input
      (subst (λ (x : Scope). IsTrue (are_given_for ds x.items input)) (sym same) given)))

  scope_placed : (k : ℕ) (scope : Scope) → slice_get ds.scopes k ≡ Some scope → AllHave Placed scope.items
  scope_placed k scope is =
      let at = body_at ds 0 ds.scopes bodies k are (slice_get_within ds.scopes k scope is) in
      subst (λ (x : Scope). AllHave Placed x.items) (same_some at.scope scope (sym at.scope_is ∙ is)) at.is.placed

-- the run of a well-typed program on a well-typed input
pub run-ends : (allowed : Allowed) (within : ℕ → Bool) (ds : Decls) (bodies : List Body) (order : List ℕ) (s : ℕ)
    (input : Items)
    → IsWellFormed ds bodies order → IsClosed within ds bodies → ScopesSettled allowed within ds bodies
    → IsTrue (within s) → IsWellTyped ds s input
    → EndsIn allowed (AreOutputsOf ds (scope_items ds s)) (run_of ds.scopes bodies order s input)
unfolding run_of
run-ends allowed within ds bodies order s input formed closed settled inside typed =
    all_runs-end allowed within ds
    (λ n runs. run_scope ds.scopes runs n (slice_get ds.scopes n) (slice_get bodies n)) deps_of
    (scope_placed allowed within ds bodies formed.bodies_are settled) closed
    (one_ends allowed within ds bodies formed.bodies_are settled) order ahead
    (λ k below. all-of_IsOrder (scope_dependencies ds.scopes bodies) order formed.order k (omega (arith, many, below)))
    s input inside typed
  where
    many : length (scope_dependencies ds.scopes bodies) ≡ length ds.scopes
    many = scopes-length ds.scopes bodies formed.counted

    deps_of : ℕ → List ℕ
    deps_of k = dependencies_of (scope_dependencies ds.scopes bodies) k

    ahead : Ahead (length ds.scopes) deps_of [] order
    ahead =
        ahead_as (length (scope_dependencies ds.scopes bodies)) (length ds.scopes)
        (dependencies_of (scope_dependencies ds.scopes bodies)) deps_of many
        (λ n below before all. all) [] order (ahead-of_IsOrder (scope_dependencies ds.scopes bodies) order formed.order)
