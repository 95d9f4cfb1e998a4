-- The runs of a calculus end in values of the types of the outputs, or in a stop that an outcome may be.
use Rattle.std.proofs.Common.{◌≡◌, ℕ, zero, suc, ◌<◌, true, IsTrue, List, [], ◌∷◌, ◌++◌, length, map, Option, None}
use Rattle.std.proofs.Common.{Some, slice_get, refl, ap, ◌∙◌, subst, arith, IfSome, IsSome}
use Rattle.std.proofs.Math.Logic.{∥∥₁_elim}
use Rattle.cat_value.specs.declared.ty.Ty.{Ty}
use Rattle.cat_value.specs.declared.ty.Ty.TheVariants as flat_ty
use Rattle.cat_value.specs.declared.value.Value.{Value}
use Rattle.cat_value.specs.declared.decls.Decls.{Decls}
use Rattle.cat_value.specs.declared.declaration.ItemDecl.{ItemDecl}
use Rattle.cat_value.specs.declared.declaration.Scope.{Scope}
use Rattle.cat_value.specs.declared.outcome.Outcome.{Outcome}
use Rattle.cat_value.specs.Inputs.{IsWellTyped, are_given_for}
use Rattle.cat_scope.specs.declared.expr.Expr.{Expr}
use Rattle.cat_scope.specs.declared.defs.Assertion.{Assertion}
use Rattle.cat_scope.specs.Names.{AllHave, Names, is_in, items_in, scope_items}
use Rattle.cat_scope.specs.Naming.{IsTargetAt}
use Rattle.cat_scope.specs.HasType.{HasType}
use Rattle.cat_scope.specs.Mentions.{items_named, joined, scopes_named}
use Rattle.cat_scope.specs.Orders.{called_by_items}
use Rattle.cat_scope.specs.Runs.{Run, gives}
use Rattle.cat_scope.specs.Judging.{Held}
use Rattle.cat_scope.specs.Eval.{eval}
use Rattle.cat_scope.specs.Calls.{Items, Runs, Scoped, env_of, judging_of}
use Rattle.cat_scope.specs.Running.{run_scoped}
use Rattle.cat_scope.specs.Outcomes.{outcome_of}
use Rattle.cat_sound.specs.Endings.{AreOf, AreOutputsOf, EndsIn, IsOf, IsOutcomeOf, IsReady}
use Rattle.cat_sound.specs.Settled.{IsHeldOf}
use Rattle.cat_sound.proofs.Exported.{Ahead, Callee, IsOutcomeOf-prop, JudgingEnds, all_at, all_back}
use Rattle.cat_sound.proofs.Exported.{all_front}
use Rattle.cat_sound.proofs.Exported.{all_runs-end, any_stands, anything, callable, ends_as, everywhere}
use Rattle.cat_sound.proofs.Exported.{expressions_go_on, listed_in, moved_new, names_of, outcome-of, run_scoped-ends}
use Rattle.cat_sound.proofs.Exported.{same_some, target_of}
use Rattle.cat_calc.specs.declared.term.DefaultTerm.{DefaultTerm}
use Rattle.cat_calc.specs.declared.calcs.ItemTerms.{ItemTerms}
use Rattle.cat_calc.specs.declared.calcs.Calc.{Calc}
use Rattle.cat_calc.specs.declared.calcs.CalcScope.{CalcScope}
use Rattle.cat_calc.specs.Terms.{conditions_in, consequences_in, named_in}
use Rattle.cat_calc.specs.Reducing.{term_among, term_of, reduced_or}
use Rattle.cat_calc.specs.Calculus.{calc_run, calc_scoped, run_terms, run_of_terms}
use Rattle.cat_calc.specs.WellFormed.{AreCalcScopes, IsCalc, IsCalcScope, IsOrderOf, StandBehind, TermTyped, all_terms}
use Rattle.cat_calc.specs.WellFormed.{items_needed, named_by_items, named_by_terms, named_in_all, scopes_called}
use Rattle.cat_calc.proofs.TermTypes.{reduced-ends}

-- ---- what is named

-- what holds of joined lists holds in each
all_joined : {A : Type 0} (P : ℕ → Type 0) (f : A → List ℕ) (xs : List A) → AllHave P (joined (map f xs))
    → AllHave (λ x. AllHave P (f x)) xs
all_joined P f [] h = tt
all_joined P f (x ∷ xs) h =
    (all_front P (f x) (joined (map f xs)) h, all_joined P f xs (all_back P (f x) (joined (map f xs)) h))

all_terms_have : (P : ℕ → Type 0) (named : Expr → List ℕ) (terms : List DefaultTerm) → AllHave P (named_in_all named terms)
    → AllHave (λ term. AllHave P (named_in named term)) terms
all_terms_have P named [] h = tt
all_terms_have P named (term ∷ terms) h = (
  all_front P (named_in named term) (named_in_all named terms) h,
  all_terms_have P named terms (all_back P (named_in named term) (named_in_all named terms) h),
)

term_has : (P : ℕ → Type 0) (named : Expr → List ℕ) (o : Option ItemTerms) (inner : Option ℕ) (term : DefaultTerm)
    → AllHave P (named_by_terms named o) → term_among o inner ≡ Some term → AllHave P (named_in named term)
term_has P named None inner term h is = absurd (cc (is))
term_has P named (Some terms) None term h is =
    subst (λ (x : DefaultTerm). AllHave P (named_in named x)) (same_some terms.own term is)
    (all_terms_have P named (all_terms terms) h).0
term_has P named (Some terms) (Some n) term h is =
    all_at (λ x. AllHave P (named_in named x)) terms.inner n term (all_terms_have P named (all_terms terms) h).1 is

items_have : (P : ℕ → Type 0) (named : Expr → List ℕ) (items : List ItemTerms) (k : ℕ)
    → AllHave P (named_by_items named items) → AllHave P (named_by_terms named (slice_get items k))
items_have P named [] k h = tt
items_have P named (terms ∷ items) zero h =
    all_front P (named_in_all named (all_terms terms)) (named_by_items named items) h
items_have P named (terms ∷ items) (suc k) h =
    items_have P named items k (all_back P (named_in_all named (all_terms terms)) (named_by_items named items) h)

all_three : {A : Type 0} (P Q R S : A → Type 0) (xs : List A) → AllHave P xs → AllHave Q xs → AllHave R xs
    → ((a : A) → P a → Q a → R a → S a) → AllHave S xs
all_three P Q R S [] f g h go = tt
all_three P Q R S (x ∷ xs) f g h go = (go x f.0 g.0 h.0, all_three P Q R S xs f.1 g.1 h.1 go)

pub ahead_of : (bound : ℕ) (needs : ℕ → List ℕ) (before order : List ℕ) → StandBehind bound needs before order
    → Ahead bound needs before order
ahead_of bound needs before [] h = tt
ahead_of bound needs before (n ∷ order) h = (h.0, h.1, ahead_of bound needs (n ∷ before) order h.2)

pub listed_of : (bound : ℕ) (needs : ℕ → List ℕ) (order : List ℕ) → IsOrderOf bound needs order → (n : ℕ) → n < bound
    → IsTrue (is_in n order)
listed_of bound needs order is n below = let one = is.once n below in listed_in order n (omega arith)

-- ---- a scope, where the scopes that it calls end in their outputs

module _ (ds : Decls) (number : ℕ) (scope : Scope) (terms : CalcScope) (is : IsCalcScope ds scope terms) (runs : Runs)
    (callees : AllHave (Callee anything ds runs) (scopes_called scope.items (Some terms))) where
  abbrev scoped : Scoped
  scoped = calc_scoped number scope.items terms ds.scopes runs

  abbrev ns : Names
  ns = names_of ds scoped

  abbrev by_parts : List ℕ
  by_parts = called_by_items scope.items ++ named_by_items scopes_named terms.terms

  abbrev by_assertions : List ℕ
  by_assertions = joined (map (λ (a : Assertion). scopes_named a.condition) terms.assertions)

  module _ (calls : ℕ → List Value → Run Value) (values : Items) (arguments : List Value) (item : ℕ)
      (inner : Option ℕ) (ps : List Ty) (t : Ty) (target : IsTargetAt ns item inner ps t) (are : AreOf ds ps arguments)
      (ready : AllHave (IsReady anything ns (env_of scoped calls values)) (items_needed terms item)) where
    expression-ends : (e : Expr) (u : Ty) → HasType ns ps e u
        → AllHave (IsReady anything ns (env_of scoped calls values)) (items_named e)
        → AllHave (Callee anything ds runs) (scopes_named e)
        → EndsIn anything (IsOf ds u) (eval (env_of scoped calls values) e arguments)
    expression-ends e u typed items scopes =
        expressions_go_on anything ns (env_of scoped calls values) ps arguments e u typed
        (record {
          items = items;
          scopes = callable anything ds scoped refl calls values (scopes_named e) scopes;
        }) are

    term-ends : (term : DefaultTerm) → term_among (slice_get terms.terms item) inner ≡ Some term → TermTyped ns ps t term
        → EndsIn anything (IsHeldOf true ds t)
        (reduced_or (λ e. eval (env_of scoped calls values) e arguments) (target_of scoped item inner) (Some term))
    term-ends term there typed =
        let items = term_has (IsReady anything ns (env_of scoped calls values)) items_named
        (slice_get terms.terms item) inner term ready there in
        let scopes = term_has (Callee anything ds runs) scopes_named (slice_get terms.terms item) inner term
        (items_have (Callee anything ds runs) scopes_named terms.terms item
        (all_back (Callee anything ds runs) (called_by_items scope.items) (named_by_items scopes_named terms.terms)
        (all_front (Callee anything ds runs) by_parts by_assertions callees))) there in
        reduced-ends anything ds t (λ e. eval (env_of scoped calls values) e arguments) (target_of scoped item inner)
        refl term
        (all_three _ _ _ _ (conditions_in term) typed.conditions
        (all_joined (IsReady anything ns (env_of scoped calls values)) items_named (conditions_in term)
        (all_front _ (joined (map items_named (conditions_in term))) _ items))
        (all_joined (Callee anything ds runs) scopes_named (conditions_in term)
        (all_front _ (joined (map scopes_named (conditions_in term))) _ scopes))
        (λ e f g h. expression-ends e flat_ty.Boolean f g h))
        (all_three _ _ _ _ (consequences_in term) typed.consequences
        (all_joined (IsReady anything ns (env_of scoped calls values)) (λ (h : Held Expr). items_named h.value)
        (consequences_in term) (all_back _ (joined (map items_named (conditions_in term))) _ items))
        (all_joined (Callee anything ds runs) (λ (h : Held Expr). scopes_named h.value) (consequences_in term)
        (all_back _ (joined (map scopes_named (conditions_in term))) _ scopes))
        (λ e f g h. expression-ends e.value t f g h))

    judged : JudgingEnds anything ds scoped calls values arguments item inner ps t
    judged = by (term_of terms.terms (target_of scoped item inner)) refl
      where
        by : (o : Option DefaultTerm) → term_of terms.terms (target_of scoped item inner) ≡ o
            → JudgingEnds anything ds scoped calls values arguments item inner ps t
        by None e = record {
          ends = ends_as anything (IsHeldOf true ds t) _ (gives None)
              (ap (reduced_or (λ x. eval (env_of scoped calls values) x arguments) (target_of scoped item inner)) e)
              (tt, refl);
          stands = λ none. any_stands (target_of scoped item inner)
              (judging_of scoped calls values arguments (target_of scoped item inner)).end;
        }
        by (Some term) e = record {
          ends = ends_as anything (IsHeldOf true ds t) _
              (reduced_or (λ x. eval (env_of scoped calls values) x arguments) (target_of scoped item inner)
              (Some term))
              (ap (reduced_or (λ x. eval (env_of scoped calls values) x arguments) (target_of scoped item inner)) e)
              (term-ends term e (subst (λ (o : Option DefaultTerm). IfSome o (TermTyped ns ps t)) e
              (is.typed (target_of scoped item inner) ps t target)));
          stands = λ none. any_stands (target_of scoped item inner)
              (judging_of scoped calls values arguments (target_of scoped item inner)).end;
        }

  pub scoped-ends : (input : Items) → IsTrue (are_given_for ds scope.items input)
      → EndsIn anything (AreOutputsOf ds scope.items) (run_scoped scoped input)
  scoped-ends input given =
      run_scoped-ends anything ds scoped (items_needed terms)
      (record {
        scopes = refl;
        placed = is.placed;
        assertions = is.assertions;
        assertion_calls = all_joined (Callee anything ds runs) (λ (a : Assertion). scopes_named a.condition)
            terms.assertions (all_back (Callee anything ds runs) by_parts by_assertions callees);
        item_calls = all_front (Callee anything ds runs) (called_by_items scope.items)
            (named_by_items scopes_named terms.terms)
            (all_front (Callee anything ds runs) by_parts by_assertions callees);
        judged = judged;
      }) input given
      (ahead_of (length scope.items) (items_needed terms) [] terms.order is.order.behind)
      (λ k below. moved_new k [] terms.order (listed_of (length scope.items) (items_needed terms) terms.order is.order k
      below))

-- ---- all scopes

pub record TermsAt (ds : Decls) (scope : Scope) (scopes : List CalcScope) (k : ℕ) : Type 0 where
  pub terms : CalcScope
  pub there : slice_get scopes k ≡ Some terms
  pub is : IsCalcScope ds scope terms

pub terms_at : (ds : Decls) (all : List Scope) (scopes : List CalcScope) (k : ℕ) (scope : Scope)
    → AreCalcScopes ds all scopes → slice_get all k ≡ Some scope → TermsAt ds scope scopes k
terms_at ds [] scopes k scope are at = absurd (cc (at))
terms_at ds (one ∷ all) [] k scope are at = elim are [ ]
terms_at ds (one ∷ all) (terms ∷ scopes) zero scope are at =
    record {
      terms = terms;
      there = refl;
      is = subst (λ (s : Scope). IsCalcScope ds s terms) (same_some one scope at) are.0;
    }
terms_at ds (one ∷ all) (terms ∷ scopes) (suc k) scope are at =
    let rest = terms_at ds all scopes k scope are.1 at in
    record { terms = rest.terms; there = rest.there; is = rest.is }

runs_end : (ds : Decls) (scopes : List CalcScope) (order : List ℕ) → IsCalc ds scopes order → (s : ℕ) (input : Items)
    → IsWellTyped ds s input
    → EndsIn anything (AreOutputsOf ds (scope_items ds s)) (run_of_terms ds.scopes scopes order s input)
unfolding run_of_terms
runs_end ds scopes order is s input typed =
    all_runs-end anything (λ k. true) ds
    (λ n runs. run_terms ds.scopes runs n (slice_get ds.scopes n) (slice_get scopes n)) calls
    (λ k scope at. (terms_at ds ds.scopes scopes k scope is.scopes_are at).is.placed)
    (λ k inside. everywhere (calls k)) one order
    (ahead_of (length ds.scopes) calls [] order is.order.behind)
    (listed_of (length ds.scopes) calls order is.order) s input refl typed
  where
    calls : ℕ → List ℕ
    calls n = scopes_called (items_in (slice_get ds.scopes n)) (slice_get scopes n)

    one : (runs : Runs) (k : ℕ) (scope : Scope) → slice_get ds.scopes k ≡ Some scope → IsTrue true
        → AllHave (Callee anything ds runs) (calls k) → (input : Items) → IsTrue (are_given_for ds scope.items input)
        → EndsIn anything (AreOutputsOf ds scope.items)
        (run_terms ds.scopes runs k (slice_get ds.scopes k) (slice_get scopes k) input)
    one runs k scope at inside callees input given =
        let here = terms_at ds ds.scopes scopes k scope is.scopes_are at in
        let same : calls k ≡ scopes_called scope.items (Some here.terms) =
        ap (λ (o : Option Scope). scopes_called (items_in o) (slice_get scopes k)) at
        ∙ ap (scopes_called scope.items) here.there in
        ends_as anything (AreOutputsOf ds scope.items)
        (run_terms ds.scopes runs k (slice_get ds.scopes k) (slice_get scopes k) input)
        (run_terms ds.scopes runs k (Some scope) (Some here.terms) input)
        (ap (λ (o : Option Scope). run_terms ds.scopes runs k o (slice_get scopes k) input) at
        ∙ ap (λ (o : Option CalcScope). run_terms ds.scopes runs k (Some scope) o input) here.there)
        (scoped-ends ds k scope here.terms here.is runs
        (subst (λ (ks : List ℕ). AllHave (Callee anything ds runs) ks) same callees) input given)

pub calculi_end : (ds : Decls) (scopes : List CalcScope) (order : List ℕ) → ∥ IsCalc ds scopes order ∥₁ → (s : ℕ)
    (input : Items) → IsWellTyped ds s input
    → IsOutcomeOf ds (scope_items ds s) (outcome_of (run_of_terms ds.scopes scopes order s input).end)
calculi_end ds scopes order formed s input typed =
    ∥∥₁_elim formed
    (IsOutcomeOf-prop ds (scope_items ds s) (outcome_of (run_of_terms ds.scopes scopes order s input).end))
    (λ is. outcome-of anything ds (scope_items ds s) (run_of_terms ds.scopes scopes order s input).end
    (runs_end ds scopes order is s input typed).1)

-- what is the outcome of some items is there
is_there : (ds : Decls) (items : List ItemDecl) (o : Option Outcome) → IsOutcomeOf ds items o → IsSome o
is_there ds items (Some o) is = refl
is_there ds items None is = absurd is

-- a run of a calculus on a well-typed input has an outcome
pub has_outcome : (calc : Calc) (scope : ℕ) (input : Items) → IsWellTyped calc.decls scope input
    → IsSome (outcome_of (calc_run calc scope input).end)
has_outcome calc scope input typed =
    is_there calc.decls (scope_items calc.decls scope) (outcome_of (calc_run calc scope input).end)
    (calculi_end calc.decls calc.scopes calc.scope_order calc.well_formed scope input typed)
