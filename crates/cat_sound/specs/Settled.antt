-- Targets that do not stop by themselves, and what is decided of a target: in an environment that has what its
-- definitions name, each is judged to a value, or to nothing where it may be empty, or stops with what an evaluation
-- inside stops with.
use Rattle.std.specs.Prelude.{◌≡◌, ℕ, Bool, false, not, ◌||◌, IsTrue, List, [], Option, Some, None, Result, Ok, Err}
use Rattle.std.specs.Prelude.{slice_get}
use Rattle.cat_value.specs.declared.ty.Ty.{Ty}
use Rattle.cat_value.specs.declared.value.Value.{Value}
use Rattle.cat_value.specs.declared.decls.Decls.{Decls}
use Rattle.cat_value.specs.declared.declaration.Kind.{Kind}
use Rattle.cat_value.specs.declared.declaration.Kind.TheVariants as kind
use Rattle.cat_value.specs.declared.declaration.ItemDecl.{ItemDecl}
use Rattle.cat_value.specs.declared.declaration.Scope.{Scope}
use Rattle.cat_value.specs.Inputs.{must_be_given}
use Rattle.cat_value.specs.declared.outcome.Target.{Target}
use Rattle.cat_scope.specs.declared.expr.Expr.{Expr}
use Rattle.cat_scope.specs.declared.defs.Def.{Def}
use Rattle.cat_scope.specs.declared.defs.Body.{Body}
use Rattle.cat_scope.specs.Names.{Names, AllHave, scope_items}
use Rattle.cat_scope.specs.HasType.{HasType}
use Rattle.cat_scope.specs.WellFormed.{ConditionTyped}
use Rattle.cat_scope.specs.Naming.{IsTargetAt}
use Rattle.cat_scope.specs.declared.stop.Stop.{Stop}
use Rattle.cat_scope.specs.Judging.{Held, held_position}
use Rattle.cat_scope.specs.Targets.{same_target, judge_target}
use Rattle.cat_scope.specs.Eval.{Env, eval}
use Rattle.cat_order.specs.Order.{dependencies_of}
use Rattle.cat_scope.specs.Orders.{scope_dependencies}
use Rattle.cat_sound.specs.Endings.{Allowed, Ended, IsOf, AreOf, IsEnvOf}

-- a definition that holds with a value of a type, or nothing where that is allowed
abbrev pub IsHeldOf : Bool → Decls → Ty → Option (Held Value) → Type 0
IsHeldOf empty ds t None = IsTrue empty
IsHeldOf empty ds t (Some h) = IsOf ds t h.value

-- a condition may be empty
abbrev pub empty_variable : Option ItemDecl → Bool
empty_variable None = false
empty_variable (Some decl) = decl.condition

-- of a called scope, an input condition and a context
abbrev pub empty_input : Option ItemDecl → Bool
empty_input None = false
empty_input (Some decl) = decl.condition || not (must_be_given decl.kind)

-- the items of a called scope, by its kind
abbrev pub items_of_kind : Decls → Kind → List ItemDecl
items_of_kind ds (kind.Called scope) = scope_items ds scope
items_of_kind ds _ = []

-- the items of a scope that an item calls
abbrev pub items_called : Decls → Option ItemDecl → List ItemDecl
items_called ds None = []
items_called ds (Some decl) = items_of_kind ds decl.kind

-- a target may be empty
abbrev pub may_be_empty : Names → ℕ → Option ℕ → Bool
may_be_empty ns item None = empty_variable (slice_get ns.items item)
may_be_empty ns item (Some inner) = empty_input (slice_get (items_called ns.decls (slice_get ns.items item)) inner)

-- a condition, where there is one
abbrev pub InCondition : (Expr → Type 0) → Option Expr → Type 0
InCondition Has None = Unit {0}
InCondition Has (Some e) = Has e

-- a definition of a target with these parameters and this type, in an environment that has what it names
pub record StandsIn (allowed : Allowed) (ns : Names) (env : Env) (ps : List Ty) (t : Ty) (d : Def) : Type 0 where
  pub condition : ConditionTyped ns ps d.condition
  pub consequence : HasType ns ps d.consequence t
  pub condition_env : InCondition (IsEnvOf allowed ns env) d.condition
  pub consequence_env : IsEnvOf allowed ns env d.consequence

-- what is decided there may stand in a log
abbrev pub MayStand : Allowed → Target → Result (Option (Held Value)) Stop → Type 0
MayStand allowed target (Ok found) = IsTrue (allowed.may_decide target (held_position found))
MayStand allowed target (Err stop) = Unit {0}

-- where a target may not stop, its judging ends in a value of its type, or in nothing where it may be empty, and of one
-- without parameters, what is decided may stand in a log
pub record IsSettled (allowed : Allowed) (target : Target) (empty : Bool) (ds : Decls) (ps : List Ty) (t : Ty)
    (end : Result (Option (Held Value)) Stop) : Type 0 where
  pub ends : allowed.may_stop target ≡ false → Ended allowed (IsHeldOf empty ds t) end
  pub stands : ps ≡ [] → MayStand allowed target end

-- so are the targets of a scope, in any environment that has what their definitions name
abbrev pub AreSettled : Allowed → Names → ℕ → List Def → Type 0
AreSettled allowed ns scope defs =
    (env : Env) (arguments : List Value) (item : ℕ) (inner : Option ℕ) (ps : List Ty) (t : Ty)
    → IsTargetAt ns item inner ps t
    → AreOf ns.decls ps arguments
    → AllHave
    (λ d. IsTrue (same_target d.target (record { scope = scope; item = item; inner = inner }))
    → StandsIn allowed ns env ps t d) defs
    → IsSettled allowed (record { scope = scope; item = item; inner = inner })
    (may_be_empty ns item inner) ns.decls ps t
    (judge_target (λ e. eval env e arguments) (record { scope = scope; item = item; inner = inner }) defs).end

-- those of each scope that is within; what such a scope calls is within too
abbrev pub ScopesSettled : Allowed → (ℕ → Bool) → Decls → List Body → Type 0
ScopesSettled allowed within ds bodies =
    (k : ℕ) (scope : Scope) (body : Body) → IsTrue (within k) → slice_get ds.scopes k ≡ Some scope
    → slice_get bodies k ≡ Some body
    → AreSettled allowed (record { decls = ds; items = scope.items }) k body.defs

-- a set of scopes has each scope that one of it calls
abbrev pub IsClosed : (ℕ → Bool) → Decls → List Body → Type 0
IsClosed within ds bodies =
    (k : ℕ) → IsTrue (within k)
    → AllHave (λ s. IsTrue (within s)) (dependencies_of (scope_dependencies ds.scopes bodies) k)
