-- What is asked of a scope, and of the values of its items, for its run to go on.
use Rattle.std.proofs.Common.{◌≡◌, ℕ, Bool, true, false, ◌||◌, not, IsTrue, List, [], Option}
use Rattle.std.proofs.Common.{Some, None, slice_get, refl, sym, ap, ◌∙◌, true≢false}
use Rattle.cat_value.specs.declared.ty.Ty.{Ty}
use Rattle.cat_value.specs.declared.ty.Ty.TheVariants as flat_ty
use Rattle.cat_value.specs.declared.value.Value.{Value}
use Rattle.cat_value.specs.declared.decls.Decls.{Decls}
use Rattle.cat_value.specs.declared.declaration.Kind.{Kind}
use Rattle.cat_value.specs.declared.declaration.Kind.TheVariants as kind
use Rattle.cat_value.specs.declared.declaration.ItemDecl.{ItemDecl}
use Rattle.cat_value.specs.Inputs.{may_be_given}
use Rattle.cat_scope.specs.declared.expr.Expr.{Expr}
use Rattle.cat_scope.specs.declared.defs.Def.{Def}
use Rattle.cat_value.specs.declared.outcome.Target.{Target}
use Rattle.cat_scope.specs.Replies.{on_one, known}
use Rattle.cat_scope.specs.Runs.{Run}
use Rattle.cat_scope.specs.Names.{Names, AllHave, scope_items, is_called}
use Rattle.cat_scope.specs.Names.{is_plain}
use Rattle.cat_scope.specs.Naming.{IsItem, IsCalledOutput}
use Rattle.cat_scope.specs.Targets.{same_inner, condition_of}
use Rattle.cat_scope.specs.Eval.{Env, eval}
use Rattle.cat_scope.specs.Composed.{part}
use Rattle.cat_scope.specs.Orders.{called_by_items}
use Rattle.cat_scope.specs.Mentions.{scopes_named}
use Rattle.cat_scope.specs.WellFormed.{ConditionTyped, AssertionTyped}
use Rattle.cat_scope.specs.Naming.{IsTargetAt, IsInner}
use Rattle.cat_scope.specs.Calls.{Items, Scoped, env_of, judging_of}
use Rattle.cat_sound.specs.Endings.{Allowed, EndsIn, ResultsIn, IsOf, AreOf}
use Rattle.cat_sound.specs.Endings.{IsCallable, IsEnvOf, IsReady}
use Rattle.cat_sound.specs.Settled.{InCondition, IsHeldOf, MayStand, StandsIn, may_be_empty}
use Rattle.cat_sound.proofs.FlatTypes.{of-Boolean}
use Rattle.cat_sound.proofs.FormTypes.{same_some, same_number, not_true}
use Rattle.cat_sound.proofs.ExprTypes.{expressions_go_on}
use Rattle.cat_sound.proofs.TargetTypes.{DefEnds, all_more}
use Rattle.cat_sound.proofs.InputTypes.{Placed, Callee, scope_call-ends}

-- ---- targets
called_or : ℕ → Kind → ℕ
called_or d (kind.Called scope) = scope
called_or d _ = d

pub same_called : (a b : ℕ) → kind.Called a ≡ kind.Called b → a ≡ b
unfolding called_or
same_called a b e = ap (called_or a) e

pub unique_target : (ns : Names) (item : ℕ) (inner : Option ℕ) (ps qs : List Ty) (t u : Ty) → IsTargetAt ns item inner
    ps t
    → IsTargetAt ns item inner qs u → (ps ≡ qs) × (t ≡ u)
unique_target ns item None ps qs t u h g =
    let same : h.decl ≡ g.decl = same_some h.decl g.decl (sym h.decl_is ∙ g.decl_is) in (
      h.params_are ∙ ap (λ (i : ItemDecl). i.params) same ∙ sym g.params_are,
      h.ty_is ∙ ap (λ (i : ItemDecl). i.ty) same ∙ sym g.ty_is,
    )
unique_target ns item (Some n) ps qs t u h g =
    let same : h.called ≡ g.called = same_some h.called g.called (sym h.called_is ∙ g.called_is) in
    let scope : h.scope ≡ g.scope =
    same_called h.scope g.scope (sym h.kind_is ∙ ap (λ (i : ItemDecl). i.kind) same ∙ g.kind_is) in
    let inner : h.decl ≡ g.decl =
    same_some h.decl g.decl
    (sym h.decl_is ∙ ap (λ s. slice_get (scope_items ns.decls s) n) scope ∙ g.decl_is) in
    (h.params_are ∙ sym g.params_are, h.ty_is ∙ ap (λ (i : ItemDecl). i.ty) inner ∙ sym g.ty_is)

-- an item of a called scope that may be given is a target of the calling scope
pub inner_target : (ns : Names) (item : ℕ) (called : ItemDecl) (s j : ℕ) (decl : ItemDecl)
    → slice_get ns.items item ≡ Some called → called.kind ≡ kind.Called s
    → slice_get (scope_items ns.decls s) j ≡ Some decl → IsTrue (may_be_given decl.kind)
    → IsInner ns item j [] decl.ty
inner_target ns item called s j decl called_is kind_is decl_is given = record {
  called = called;
  scope = s;
  decl = decl;
  called_is = called_is;
  kind_is = kind_is;
  decl_is = decl_is;
  given = given;
  params_are = refl;
  ty_is = refl;
}

pub inner_is : (a b : Option ℕ) → IsTrue (same_inner a b) → a ≡ b
inner_is None None h = refl
inner_is None (Some b) h = not_true h
inner_is (Some a) None h = not_true h
inner_is (Some a) (Some b) h = ap Some (same_number a b h)

-- ---- a scope

abbrev pub names_of : Decls → Scoped → Names
names_of ds scoped = record { decls = ds; items = scoped.items }

-- a target of a scope
abbrev pub target_of : Scoped → ℕ → Option ℕ → Target
target_of scoped item inner = record { scope = scoped.scope; item = item; inner = inner }

-- a judging ends as its target may, and what is decided may stand in a log
pub record JudgingEnds (allowed : Allowed) (ds : Decls) (scoped : Scoped) (calls : ℕ → List Value → Run Value)
    (values : Items) (arguments : List Value) (item : ℕ) (inner : Option ℕ) (ps : List Ty) (t : Ty) : Type 0 where
  pub ends : EndsIn allowed (IsHeldOf (allowed.may_stop (target_of scoped item inner) || may_be_empty
      (names_of ds scoped) item inner) ds t)
      (judging_of scoped calls values arguments (target_of scoped item inner))
  pub stands : ps ≡ []
      → MayStand allowed (target_of scoped item inner)
      (judging_of scoped calls values arguments (target_of scoped item inner)).end

-- a scope is well typed, the scopes that it calls end in their outputs, and its targets end as they may where what they
-- need does
pub record IsSound (allowed : Allowed) (ds : Decls) (scoped : Scoped) (needs : ℕ → List ℕ) : Type 0 where
  pub scopes : scoped.scopes ≡ ds.scopes
  pub placed : AllHave Placed scoped.items
  pub assertions : AllHave (AssertionTyped (names_of ds scoped)) scoped.assertions
  pub assertion_calls : AllHave (λ a. AllHave (Callee allowed ds scoped.runs) (scopes_named a.condition))
      scoped.assertions
  pub item_calls : AllHave (Callee allowed ds scoped.runs) (called_by_items scoped.items)
  pub judged : (calls : ℕ → List Value → Run Value) (values : Items) (arguments : List Value) (item : ℕ)
      (inner : Option ℕ) (ps : List Ty) (t : Ty) → IsTargetAt (names_of ds scoped) item inner ps t
      → AreOf ds ps arguments
      → AllHave (IsReady allowed (names_of ds scoped) (env_of scoped calls values)) (needs item)
      → JudgingEnds allowed ds scoped calls values arguments item inner ps t

pub callable : (allowed : Allowed) (ds : Decls) (scoped : Scoped) → scoped.scopes ≡ ds.scopes
    → (calls : ℕ → List Value → Run Value) (values : Items) (ss : List ℕ) → AllHave (Callee allowed ds scoped.runs) ss
    → AllHave (IsCallable allowed (names_of ds scoped) (env_of scoped calls values)) ss
callable allowed ds scoped same calls values ss h =
    all_more (Callee allowed ds scoped.runs) (IsCallable allowed (names_of ds scoped) (env_of scoped calls values)) ss h
    (λ s callee. scope_call-ends allowed (names_of ds scoped) scoped calls values s same callee)

-- what an item comes to: a value of its type, outputs of a called scope, and whatever else for a function
pub record IsDone (ns : Names) (item : ℕ) (o : Option Value) : Type 0 where
  pub variable : (t : Ty) → IsItem is_plain ns.items item t → ResultsIn (IsOf ns.decls t) (known o)
  pub output : (k : ℕ) (t : Ty) → IsCalledOutput ns item k t → ResultsIn (IsOf ns.decls t) (on_one (known o) (part k))

pub record DoneAt (ns : Names) (values : Items) (item : ℕ) : Type 0 where
  pub value : Option Value
  pub there : slice_get values item ≡ Some value
  pub is : IsDone ns item value

pub not_both : (b : Bool) → IsTrue (not b) → b ≡ true → ⊥
not_both true h e = true≢false (sym h)
not_both false h e = true≢false (sym e)

pub called_is : (k : Kind) (s : ℕ) → k ≡ kind.Called s → is_called k ≡ true
called_is k s e = ap is_called e

-- a definition ends as its target wants, in an environment that has what it names
pub stands_end : (allowed : Allowed) (ns : Names) (env : Env) (ps : List Ty) (t : Ty) (arguments : List Value)
    → AreOf ns.decls ps arguments → (d : Def) → StandsIn allowed ns env ps t d
    → DefEnds allowed ns.decls t (λ e. eval env e arguments) d
stands_end allowed ns env ps t arguments are d stands = record {
  condition = condition d.condition stands.condition stands.condition_env;
  consequence =
      expressions_go_on allowed ns env ps arguments d.consequence t stands.consequence stands.consequence_env are;
}
  where
    condition : (o : Option Expr) → ConditionTyped ns ps o → InCondition (IsEnvOf allowed ns env) o
        → EndsIn allowed (IsOf ns.decls flat_ty.Boolean) (condition_of (λ e. eval env e arguments) o)
    condition None typed has = (tt, of-Boolean ns.decls true)
    condition (Some e) typed has = expressions_go_on allowed ns env ps arguments e flat_ty.Boolean typed has are
