-- How evaluations end: in a value with a property, or in a stop that an outcome may be; and what environments hold.
use Rattle.std.specs.Prelude.{◌≡◌, ℕ, Bool, IsTrue, List, [], ◌∷◌, Option, Some, None, Result, Ok, Err, slice_get}
use Rattle.cat_pos.specs.declared.pos.Pos.{Pos}
use Rattle.cat_value.specs.declared.value.Value.{Value}
use Rattle.cat_value.specs.declared.outcome.Outcome.{Outcome}
use Rattle.cat_value.specs.declared.outcome.Target.{Target}
use Rattle.cat_value.specs.declared.outcome.Outcome.TheVariants as outcome
use Rattle.cat_value.specs.declared.ty.Ty.{Ty}
use Rattle.cat_value.specs.declared.decls.Decls.{Decls}
use Rattle.cat_value.specs.declared.declaration.ItemDecl.{ItemDecl}
use Rattle.cat_value.specs.Typing.{has_type}
use Rattle.cat_scope.specs.declared.stop.Stop.{Stop}
use Rattle.cat_scope.specs.declared.stop.Stop.TheVariants.{Conflict, NoValue, Fault, Stuck}
use Rattle.cat_scope.specs.declared.expr.Expr.{Expr}
use Rattle.cat_scope.specs.Replies.{on_one, evaluated}
use Rattle.cat_scope.specs.Runs.{Decider, Run}
use Rattle.cat_scope.specs.Names.{Names, AllHave, is_plain}
use Rattle.cat_value.specs.Inputs.{outputs_in}
use Rattle.cat_scope.specs.Fitting.{are_call_fields, input_type}
use Rattle.cat_scope.specs.Naming.{IsItem, IsCalledOutput, IsFunction, IsOutput}
use Rattle.cat_scope.specs.Mentions.{items_named, scopes_named}
use Rattle.cat_scope.specs.Eval.{Env}
use Rattle.cat_scope.specs.Composed.{part}

-- which targets may stop by themselves, in a Conflict or a NoValue, and what of a target a log may hold
pub record Allowed : Type 0 where
  pub may_stop : Target → Bool
  pub may_decide : Target → Option Pos → Bool

-- a stop that an outcome may be: a Conflict or a NoValue of a target that may stop, or a fault
abbrev pub IsEnd : Allowed → Stop → Type 0
IsEnd allowed (Conflict target positions) = IsTrue (allowed.may_stop target)
IsEnd allowed (NoValue target pos) = IsTrue (allowed.may_stop target)
IsEnd allowed (Fault kind pos) = Unit {0}
IsEnd allowed Stuck = ⊥

-- what a log may hold
abbrev pub IsDecision : Allowed → Decider → Type 0
IsDecision allowed decider = IsTrue (allowed.may_decide decider.target decider.by)

-- what has a property, or a stop that an outcome may be
abbrev pub Ended : {A : Type 0} → Allowed → (A → Type 0) → Result A Stop → Type 0
Ended allowed Holds (Ok a) = Holds a
Ended allowed Holds (Err stop) = IsEnd allowed stop

-- a run that ends so, and whose log holds what a log may hold
abbrev pub EndsIn : {A : Type 0} → Allowed → (A → Type 0) → Run A → Type 0
EndsIn allowed Holds run = AllHave (IsDecision allowed) run.log × Ended allowed Holds run.end

-- a fault
abbrev pub IsFault : Stop → Type 0
IsFault (Conflict target positions) = ⊥
IsFault (NoValue target pos) = ⊥
IsFault (Fault kind pos) = Unit {0}
IsFault Stuck = ⊥

-- where nothing is decided: what has a property, or a fault
abbrev pub ResultsIn : {A : Type 0} → (A → Type 0) → Result A Stop → Type 0
ResultsIn Holds (Ok a) = Holds a
ResultsIn Holds (Err stop) = IsFault stop

-- a value of a type
abbrev pub IsOf : Decls → Ty → Value → Type 0
IsOf ds t v = IsTrue (has_type ds v t)

-- one value for each type, of it
abbrev pub AreOf : Decls → List Ty → List Value → Type 0
AreOf ds [] [] = Unit {0}
AreOf ds [] (v ∷ vs) = ⊥
AreOf ds (t ∷ ts) [] = ⊥
AreOf ds (t ∷ ts) (v ∷ vs) = IsOf ds t v × AreOf ds ts vs

-- the types of some items
abbrev pub types_of : List ItemDecl → List Ty
types_of [] = []
types_of (item ∷ items) = item.ty ∷ types_of items

-- a value for each output of a scope with these items, of its type
abbrev pub AreOutputsOf : Decls → List ItemDecl → List Value → Type 0
AreOutputsOf ds items outputs = AreOf ds (types_of (outputs_in items)) outputs

-- the numbers of some fields with their values
abbrev pub field_numbers : List (ℕ × Value) → List ℕ
field_numbers [] = []
field_numbers (f ∷ fs) = f.0 ∷ field_numbers fs

-- a field is of the type that its number has
abbrev pub IsFieldOf : Decls → (ℕ → Option Ty) → ℕ × Value → Type 0
IsFieldOf ds type_of f = (t : Ty) × (type_of f.0 ≡ Some t) × IsOf ds t f.1

-- what an environment has of an item: the value of a variable is done and of its type, an output of a called scope is
-- of its type, and a function ends in a value of its type for arguments of the types of its parameters
pub record IsReady (allowed : Allowed) (ns : Names) (env : Env) (item : ℕ) : Type 0 where
  pub variable : (t : Ty) → IsItem is_plain ns.items item t
      → ResultsIn (IsOf ns.decls t) (evaluated (slice_get env.items item))
  pub output : (k : ℕ) (t : Ty) → IsCalledOutput ns item k t
      → ResultsIn (IsOf ns.decls t) (on_one (evaluated (slice_get env.items item)) (part k))
  pub function : (params : List Ty) (t : Ty) (vs : List Value) → IsFunction ns item params t → AreOf ns.decls params vs
      → EndsIn allowed (IsOf ns.decls t) (env.call item vs)

-- a scope call ends in a value of the type of its output, for fields as the scope takes them
abbrev pub IsCallable : Allowed → Names → Env → ℕ → Type 0
IsCallable allowed ns env scope =
    (fs : List (ℕ × Value)) (k : ℕ) (t : Ty) → AllHave (IsFieldOf ns.decls (input_type ns.decls scope)) fs
    → IsTrue (are_call_fields ns.decls scope (field_numbers fs)) → IsOutput ns.decls scope k t
    → EndsIn allowed (IsOf ns.decls t) (env.scope_call scope fs k)

-- an environment has what an expression names
pub record IsEnvOf (allowed : Allowed) (ns : Names) (env : Env) (e : Expr) : Type 0 where
  pub items : AllHave (IsReady allowed ns env) (items_named e)
  pub scopes : AllHave (IsCallable allowed ns env) (scopes_named e)

-- an outcome, and where it is a value the outputs have their types
abbrev pub IsOutcomeOf : Decls → List ItemDecl → Option Outcome → Type 0
IsOutcomeOf ds items (Some (outcome.Value outputs)) = AreOutputsOf ds items outputs
IsOutcomeOf ds items (Some (outcome.Conflict target positions)) = Unit {0}
IsOutcomeOf ds items (Some (outcome.NoValue target pos)) = Unit {0}
IsOutcomeOf ds items (Some (outcome.Fault fault pos)) = Unit {0}
IsOutcomeOf ds items None = ⊥
