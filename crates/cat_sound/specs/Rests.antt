-- Environments that tell the same of what an expression names.
use Rattle.std.specs.Prelude.{◌≡◌, ℕ, List, slice_get}
use Rattle.cat_value.specs.declared.value.Value.{Value}
use Rattle.cat_scope.specs.declared.expr.Expr.{Expr}
use Rattle.cat_scope.specs.Names.{AllHave}
use Rattle.cat_scope.specs.Mentions.{items_named, scopes_named}
use Rattle.cat_scope.specs.Runs.{Run}
use Rattle.cat_scope.specs.Eval.{Env}
use Rattle.cat_scope.specs.Calls.{Items, Scoped, call, judging_of, variable, variable_value}

-- of an item: its value, and what it gives for arguments
pub record TellSame (a b : Env) (item : ℕ) : Type 0 where
  pub value : slice_get a.items item ≡ slice_get b.items item
  pub call : (arguments : List Value) → a.call item arguments ≡ b.call item arguments

-- of a scope: what a scope call gives
abbrev pub CallSame : Env → Env → ℕ → Type 0
CallSame a b scope =
    (fields : List (ℕ × Value)) (output : ℕ) → a.scope_call scope fields output ≡ b.scope_call scope fields output

-- of all that an expression names
pub record AgreeOn (a b : Env) (e : Expr) : Type 0 where
  pub rounding : a.rounding ≡ b.rounding
  pub items : AllHave (TellSame a b) (items_named e)
  pub scopes : AllHave (CallSame a b) (scopes_named e)

-- what a function gives by the judging of its target, where functions call those among these items
abbrev pub judged_call : Scoped → Items → List ℕ → ℕ → List Value → Run Value
judged_call scoped values before function arguments =
    variable_value (variable scoped function) (slice_get scoped.items function)
    (judging_of scoped (call scoped values before) values arguments (variable scoped function))
