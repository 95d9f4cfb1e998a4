-- What functions and scopes give that a scope calls, where each calls only those that stand before it.
use Rattle.std.specs.Prelude.{ℕ, ◌+◌, nat_eq, ◌&&◌, false, List, [], ◌∷◌, Option, Some, None, slice_get, if◌then◌else◌}
use Rattle.cat_date.specs.declared.rounding.Rounding.{Rounding}
use Rattle.cat_value.specs.declared.value.Value.{Value}
use Rattle.cat_value.specs.declared.value.Value.TheVariants.{Boolean}
use Rattle.cat_value.specs.declared.declaration.ItemDecl.{ItemDecl}
use Rattle.cat_value.specs.declared.declaration.Scope.{Scope}
use Rattle.cat_value.specs.Inputs.{must_be_given}
use Rattle.cat_value.specs.declared.outcome.Target.{Target}
use Rattle.cat_scope.specs.declared.stop.Stop.TheVariants.{Stuck}
use Rattle.cat_scope.specs.declared.expr.Expr.{Expr}
use Rattle.cat_scope.specs.declared.defs.Assertion.{Assertion}
use Rattle.cat_scope.specs.Replies.{known}
use Rattle.cat_scope.specs.Runs.{Run, stops, giving}
use Rattle.cat_scope.specs.Names.{items_in}
use Rattle.cat_scope.specs.Judging.{Judged}
use Rattle.cat_scope.specs.Targets.{absent, value_or}
use Rattle.cat_scope.specs.Eval.{Env, eval}
use Rattle.cat_scope.specs.Composed.{value_given}

-- the values of items: none for one that is not done, not given or a function, and for a called scope the structure of
-- its outputs
abbrev pub Items : Type 0
Items = List (Option Value)

-- what a scope gives for an input
abbrev pub Runs : Type 0
Runs = ℕ → Items → Run (List Value)

-- a scope that is run: its number, its items and their order, what becomes of a day that its month lacks, what its
-- targets come to where expressions come to something, its assertions, and the items and runs of the scopes that it
-- calls
pub record Scoped : Type 0 where
  pub scope : ℕ
  pub items : List ItemDecl
  pub order : List ℕ
  pub rounding : Rounding
  pub judging : (Expr → Run Value) → Target → Judged Value
  pub assertions : List Assertion
  pub scopes : List Scope
  pub runs : Runs

-- the target of a variable of the scope
abbrev pub variable : Scoped → ℕ → Target
variable scoped item = record { scope = scoped.scope; item = item; inner = None }

-- the target of an input or a context of a called scope
abbrev pub variable_of_called : Scoped → ℕ → ℕ → Target
variable_of_called scoped item inner = record { scope = scoped.scope; item = item; inner = Some inner }

-- the items of a scope that is called
abbrev pub items_of : Scoped → ℕ → List ItemDecl
items_of scoped called = items_in (slice_get scoped.scopes called)

-- in a scope call an item has the value of its field; an input condition without a field is false, and nothing else is
-- given
abbrev pub call_entry : ItemDecl → Option Value → Option Value
call_entry item (Some v) = Some v
call_entry item None = if must_be_given item.kind && item.condition then Some (Boolean false) else None

-- the input of a scope call, from item n on
abbrev pub call_input : ℕ → List (ℕ × Value) → List ItemDecl → Items
call_input n fields [] = []
call_input n fields (item ∷ items) = call_entry item (value_given n fields) ∷ call_input (n + 1) fields items

-- an output of a scope, for the fields of a scope call
abbrev pub scope_call : Scoped → ℕ → List (ℕ × Value) → ℕ → Run Value
scope_call scoped called fields output =
    giving (scoped.runs called (call_input 0 fields (items_of scoped called)))
    (λ outputs. known (slice_get outputs output))

-- what the expressions of a scope stand in
abbrev pub env_of : Scoped → (ℕ → List Value → Run Value) → Items → Env
env_of scoped calls values =
    record { rounding = scoped.rounding; items = values; call = calls; scope_call = scope_call scoped }

-- a target, where functions give what `calls` tells and the items have these values
abbrev pub judging_of : Scoped → (ℕ → List Value → Run Value) → Items → List Value → Target → Judged Value
judging_of scoped calls values arguments target =
    scoped.judging (λ e. eval (env_of scoped calls values) e arguments) target

-- the value of a variable or a function, by its judging: where it is Empty, false for a condition, else NoValue at its
-- name
abbrev pub variable_value : Target → Option ItemDecl → Judged Value → Run Value
variable_value target None judging = stops Stuck
variable_value target (Some decl) judging = giving judging (value_or (absent target decl.pos decl.condition))

-- what a function gives for its arguments, among the items that stand before, the last of them first: each calls only
-- those that stand before itself. Its own judging isn't logged
abbrev pub call : Scoped → Items → List ℕ → ℕ → List Value → Run Value
call scoped values [] function arguments = stops Stuck
call scoped values (item ∷ before) function arguments =
    if nat_eq item function
    then variable_value (variable scoped item) (slice_get scoped.items item)
    (judging_of scoped (call scoped values before) values arguments (variable scoped item))
    else call scoped values before function arguments
