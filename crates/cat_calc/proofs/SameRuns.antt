-- A scope of terms is run as the scope of definitions is.
use Rattle.std.proofs.Common.{◌≡◌, ◌∙◌, ℕ, zero, suc, ◌+◌, true, List, [], ◌∷◌}
use Rattle.std.proofs.Common.{Option, Some, None, slice_get, refl, sym, ap, subst, arith}
use mathlib.Core.Path.{fun_ext}
use Rattle.cat_value.specs.declared.value.Value.{Value}
use Rattle.cat_value.specs.declared.decls.Decls.{Decls}
use Rattle.cat_value.specs.declared.declaration.Kind.{Kind}
use Rattle.cat_value.specs.declared.declaration.ItemDecl.{ItemDecl}
use Rattle.cat_value.specs.declared.declaration.Scope.{Scope}
use Rattle.cat_value.specs.declared.outcome.Target.{Target}
use Rattle.cat_scope.specs.declared.expr.Expr.{Expr}
use Rattle.cat_scope.specs.declared.defs.Def.{Def}
use Rattle.cat_scope.specs.declared.defs.Body.{Body}
use Rattle.cat_scope.specs.Runs.{Run}
use Rattle.cat_scope.specs.Names.{has_none, scope_items}
use Rattle.cat_scope.specs.Groups.{Group}
use Rattle.cat_scope.specs.Judging.{Judged}
use Rattle.cat_scope.specs.Targets.{defs_from, judge_groups, judge_target}
use Rattle.cat_scope.specs.Calls.{Items, Runs, Scoped}
use Rattle.cat_scope.specs.Running.{backwards, run_by, run_scope, run_of, run_scoped, scoped_of}
use Rattle.cat_sound.proofs.Exported.{same_some}
use Rattle.cat_calc.specs.declared.term.DefaultTerm.{DefaultTerm}
use Rattle.cat_calc.specs.declared.calcs.ItemTerms.{ItemTerms}
use Rattle.cat_calc.specs.Reducing.{term_among, term_of, reduced_or, judged_by}
use Rattle.cat_calc.specs.Calculus.{calc_scoped, run_terms, run_of_terms}
use Rattle.cat_calc.specs.inside.Numbered.{groups_in}
use Rattle.cat_calc.specs.inside.Items.{target_at, term_at, inner_terms, inner_items, item_terms, terms_of_items}
use Rattle.cat_calc.specs.inside.Items.{calc_scope, calc_scope_at, calc_scopes}
use Rattle.cat_calc.proofs.TargetTerms.{reduced_target}
use Rattle.cat_calc.proofs.Tables.{groups_alone}
use Rattle.cat_calc.proofs.Listed.{IsTarget}
use Rattle.cat_calc.proofs.Lows.{IsSteady, no_groups}

-- ---- the terms of items and inner items, by their numbers

abbrev pub item_terms_at : Decls → List Def → ℕ → Option ItemDecl → Option ItemTerms
item_terms_at ds defs n None = None
item_terms_at ds defs n (Some decl) = Some (item_terms ds defs n decl)

pub terms_at : (ds : Decls) (defs : List Def) (n : ℕ) (items : List ItemDecl) (k : ℕ)
    → slice_get (terms_of_items ds defs n items) k ≡ item_terms_at ds defs (n + k) (slice_get items k)
terms_at ds defs n [] k = refl
terms_at ds defs n (decl ∷ items) zero = ap (λ (m : ℕ). Some (item_terms ds defs m decl)) (omega arith)
terms_at ds defs n (decl ∷ items) (suc k) = terms_at ds defs (n + 1) items k
    ∙ ap (λ (m : ℕ). item_terms_at ds defs m (slice_get items k)) (omega arith)

abbrev pub inner_term_at : List Def → ℕ → ℕ → Option ItemDecl → Option DefaultTerm
inner_term_at defs item n None = None
inner_term_at defs item n (Some decl) = Some (term_at defs item (Some n))

pub inner_at : (defs : List Def) (item n : ℕ) (items : List ItemDecl) (k : ℕ)
    → slice_get (inner_terms defs item n items) k ≡ inner_term_at defs item (n + k) (slice_get items k)
inner_at defs item n [] k = refl
inner_at defs item n (decl ∷ items) zero = ap (λ (m : ℕ). Some (term_at defs item (Some m))) (omega arith)
inner_at defs item n (decl ∷ items) (suc k) = inner_at defs item (n + 1) items k
    ∙ ap (λ (m : ℕ). inner_term_at defs item m (slice_get items k)) (omega arith)

-- the term of an item or inner item, where there is one
pub data IsTermAt (ds : Decls) (defs : List Def) (items : List ItemDecl) (item : ℕ) (inner : Option ℕ)
    (found : Option DefaultTerm) : Type 0 where
  there : found ≡ Some (term_at defs item inner) → IsTermAt ds defs items item inner found
  missing : found ≡ None → (IsTarget (record { decls = ds; items = items }) item inner → ⊥)
      → IsTermAt ds defs items item inner found

not_some : {A : Type 0} (o : Option A) (a : A) → o ≡ None → o ≡ Some a → ⊥
not_some o a none some = absurd (cc (none, some))

-- an inner item that is a target is one of the items of the scope that is called
inner_there : (ds : Decls) (items : List ItemDecl) (item k : ℕ) (decl : ItemDecl) → slice_get items item ≡ Some decl
    → slice_get (inner_items ds decl.kind) k ≡ None → IsTarget (record { decls = ds; items = items }) item (Some k) → ⊥
inner_there ds items item k decl is none target =
    let same : target.is.called ≡ decl = same_some target.is.called decl (sym target.is.called_is ∙ is) in
    not_some (slice_get (scope_items ds target.is.scope) k) target.is.decl
    (ap (λ (x : Kind). slice_get (inner_items ds x) k) (sym target.is.kind_is ∙ ap (λ (d : ItemDecl). d.kind) same)
    ∙ none) target.is.decl_is

pub term_found : (ds : Decls) (defs : List Def) (items : List ItemDecl) (item : ℕ) (inner : Option ℕ)
    → IsTermAt ds defs items item inner (term_among (slice_get (terms_of_items ds defs 0 items) item) inner)
term_found ds defs items item inner =
    subst (λ o. IsTermAt ds defs items item inner (term_among o inner))
    (sym (terms_at ds defs 0 items item
    ∙ ap (λ (m : ℕ). item_terms_at ds defs m (slice_get items item)) (omega arith)))
    (by (slice_get items item) refl inner)
  where
    inside : (decl : ItemDecl) → slice_get items item ≡ Some decl → (k : ℕ) (o : Option ItemDecl)
        → slice_get (inner_items ds decl.kind) k ≡ o
        → IsTermAt ds defs items item (Some k) (inner_term_at defs item k o)
    inside decl is k None none = missing refl (inner_there ds items item k decl is none)
    inside decl is k (Some inner_decl) some = there refl

    by : (o : Option ItemDecl) → slice_get items item ≡ o → (i : Option ℕ)
        → IsTermAt ds defs items item i (term_among (item_terms_at ds defs item o) i)
    by None is None = missing refl (λ target. not_some (slice_get items item) target.is.decl is target.is.decl_is)
    by None is (Some k) =
        missing refl (λ target. not_some (slice_get items item) target.is.called is target.is.called_is)
    by (Some decl) is None = there refl
    by (Some decl) is (Some k) =
        subst (λ o. IsTermAt ds defs items item (Some k) o)
        (sym (inner_at defs item 0 (inner_items ds decl.kind) k
        ∙ ap (λ (m : ℕ). inner_term_at defs item m (slice_get (inner_items ds decl.kind) k)) (omega arith)))
        (inside decl is k (slice_get (inner_items ds decl.kind) k) refl)

-- ---- judging

-- what is known of the definitions of a scope: the groups of each target are steady, and what is no target has none
pub record AreSteady (ds : Decls) (items : List ItemDecl) (defs : List Def) : Type 0 where
  pub steady : (item : ℕ) (inner : Option ℕ) → IsSteady (groups_in defs (target_at item inner))
  pub others : (item : ℕ) (inner : Option ℕ) → (IsTarget (record { decls = ds; items = items }) item inner → ⊥)
      → has_none (defs_from (target_at item inner) 0 defs) ≡ true

module _ (ds : Decls) (items : List ItemDecl) (defs : List Def) (are : AreSteady ds items defs)
    (value : Expr → Run Value) (target : Target) where
  as_groups : judge_target value target defs
      ≡ judge_groups value target (groups_in defs (target_at target.item target.inner))
  unfolding judge_target
  as_groups = ap (λ (gs : List Group). judge_groups value target gs) (groups_alone defs target)

  judged_as : (found : Option DefaultTerm) → IsTermAt ds defs items target.item target.inner found
      → reduced_or value target found ≡ judge_target value target defs
  judged_as found (there is) =
      let steady = are.steady target.item target.inner in
      ap (reduced_or value target) is
      ∙ reduced_target value target (groups_in defs (target_at target.item target.inner)) (steady.by_rule target)
      steady.low
      ∙ sym as_groups
  judged_as found (missing is none) =
      ap (reduced_or value target) is
      ∙ sym (as_groups ∙ ap (λ (gs : List Group). judge_groups value target gs)
      (no_groups defs (target_at target.item target.inner) (are.others target.item target.inner none)))

  judged_same : judged_by (terms_of_items ds defs 0 items) value target ≡ judge_target value target defs
  judged_same = judged_as (term_of (terms_of_items ds defs 0 items) target)
      (term_found ds defs items target.item target.inner)

-- ---- runs

pub scoped_same : (ds : Decls) (scope : Scope) (body : Body) → AreSteady ds scope.items body.defs → (n : ℕ)
    (scopes : List Scope) (runs : Runs)
    → calc_scoped n scope.items (calc_scope ds scope body) scopes runs ≡ scoped_of n scope.items body scopes runs
scoped_same ds scope body are n scopes runs =
    ap with_judging
    (fun_ext (λ value. fun_ext (λ target. judged_same ds scope.items body.defs are value target)))
  where
    with_judging : ((Expr → Run Value) → Target → Judged Value) → Scoped
    with_judging judging = record {
      scope = n;
      items = scope.items;
      order = body.order;
      rounding = body.rounding;
      judging = judging;
      assertions = body.assertions;
      scopes = scopes;
      runs = runs;
    }

-- each scope with its body is steady
abbrev pub AllSteady : Decls → List Scope → List Body → Type 0
AllSteady ds scopes bodies = (n : ℕ) (scope : Scope) (body : Body) → slice_get scopes n ≡ Some scope
    → slice_get bodies n ≡ Some body → AreSteady ds scope.items body.defs

pub scopes_at : (ds : Decls) (scopes : List Scope) (bodies : List Body) (n : ℕ)
    → slice_get (calc_scopes ds scopes bodies) n ≡ calc_scope_at ds (slice_get scopes n) (slice_get bodies n)
scopes_at ds [] bodies n = refl
scopes_at ds (scope ∷ scopes) [] zero = refl
scopes_at ds (scope ∷ scopes) [] (suc n) = by (slice_get scopes n) where
  by : (o : Option Scope) → None ≡ calc_scope_at ds o None
  by None = refl
  by (Some s) = refl
scopes_at ds (scope ∷ scopes) (body ∷ bodies) zero = refl
scopes_at ds (scope ∷ scopes) (body ∷ bodies) (suc n) = scopes_at ds scopes bodies n

one_same : (ds : Decls) (scopes : List Scope) (bodies : List Body) → AllSteady ds scopes bodies → (n : ℕ)
    (runs : Runs)
    → run_terms scopes runs n (slice_get scopes n) (slice_get (calc_scopes ds scopes bodies) n)
    ≡ run_scope scopes runs n (slice_get scopes n) (slice_get bodies n)
one_same ds scopes bodies all n runs =
    ap (run_terms scopes runs n (slice_get scopes n)) (scopes_at ds scopes bodies n)
    ∙ by (slice_get scopes n) (slice_get bodies n) refl refl
  where
    by : (s : Option Scope) (b : Option Body) → slice_get scopes n ≡ s → slice_get bodies n ≡ b
        → run_terms scopes runs n s (calc_scope_at ds s b) ≡ run_scope scopes runs n s b
    by None b is also = refl
    by (Some scope) None is also = refl
    by (Some scope) (Some body) is also =
        ap run_scoped (scoped_same ds scope body (all n scope body is also) n scopes runs)

pub runs_same : (ds : Decls) (scopes : List Scope) (bodies : List Body) (order : List ℕ) → AllSteady ds scopes bodies
    → (n : ℕ) (input : Items)
    → run_of_terms scopes (calc_scopes ds scopes bodies) order n input ≡ run_of scopes bodies order n input
unfolding run_of_terms run_of
runs_same ds scopes bodies order all n input =
    ap (λ (each : ℕ → Runs → Items → Run (List Value)). run_by each (backwards order) n input)
    (fun_ext (λ m. fun_ext (λ runs. one_same ds scopes bodies all m runs)))
