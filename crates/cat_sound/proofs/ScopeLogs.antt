-- A property of logs, as in LogParts: where the logs of scopes that are run have it, and those of judgings of what has
-- it, so has what a scope logs.
use Rattle.std.proofs.Common.{◌≡◌, ℕ, ◌+◌, Bool, true, false, List, [], ◌∷◌, ◌++◌, Option, Some}
use Rattle.std.proofs.Common.{None, Ok, slice_get, if◌then◌else◌}
use Rattle.std.specs.Prelude.{nat_eq}
use Rattle.cat_pos.specs.declared.pos.Pos.{Pos}
use Rattle.cat_value.specs.declared.value.Value.{Value}
use Rattle.cat_value.specs.declared.value.Value.TheViews as value
use Rattle.cat_value.specs.declared.ty.Ty.{Ty}
use Rattle.cat_value.specs.declared.declaration.Kind.{Kind}
use Rattle.cat_value.specs.declared.declaration.Kind.TheVariants as kind
use Rattle.cat_value.specs.declared.declaration.ItemDecl.{ItemDecl}
use Rattle.cat_value.specs.declared.outcome.Target.{Target}
use Rattle.cat_value.specs.Inputs.{may_be_given}
use Rattle.cat_scope.specs.declared.expr.Expr.{Expr}
use Rattle.cat_scope.specs.Replies.{known}
use Rattle.cat_scope.specs.Runs.{Decider, Run, plain, gives, and_then, giving}
use Rattle.cat_scope.specs.Judging.{Held, Judged, held_position}
use Rattle.cat_scope.specs.Judging.{decided}
use Rattle.cat_scope.specs.Targets.{absent, value_or}
use Rattle.cat_scope.specs.Eval.{eval}
use Rattle.cat_scope.specs.Calls.{Items, Scoped, variable, variable_of_called, items_of, call_input, scope_call, env_of}
use Rattle.cat_scope.specs.Calls.{judging_of, variable_value, call}
use Rattle.cat_scope.specs.Running.{backwards, entry_at, with_entry, no_values, run_items, asserted, outputs_of}
use Rattle.cat_scope.specs.Running.{run_scoped}
use Rattle.cat_scope.specs.ItemValues.{passed, passed_input, called_value, defined_value, ungiven_value, item_value}
use Rattle.cat_sound.specs.Logs.{target_in}
use Rattle.cat_sound.proofs.LogParts.{asserted_logs, eval_logs, front_logs, giving_logs, then_logs}

module _ (P : List Decider → Type 0) (none : P []) (joined : (xs ys : List Decider) → P xs → P ys → P (xs ++ ys)) where
  -- ---- a scope, where the logs of scopes that it runs have the property

  module _ (scoped : Scoped) (runs : (s : ℕ) (i : Items) → P (scoped.runs s i).log)
      (judges : (value : Expr → Run Value) → ((e : Expr) → P (value e).log) → (target : Target)
      → P (scoped.judging value target).log) where
    scope_call_logs : (s : ℕ) (fs : List (ℕ × Value)) (k : ℕ) → P (scope_call scoped s fs k).log
    scope_call_logs s fs k =
        giving_logs P none joined (scoped.runs s (call_input 0 fs (items_of scoped s)))
        (λ outputs. known (slice_get outputs k))
        (runs s (call_input 0 fs (items_of scoped s)))

    pub scoped_eval_logs : (calls : ℕ → List Value → Run Value) → ((f : ℕ) (vs : List Value) → P (calls f vs).log)
        → (values : Items) (e : Expr) (locals : List Value) → P (eval (env_of scoped calls values) e locals).log
    scoped_eval_logs calls h values e locals = eval_logs P none joined (env_of scoped calls values) h scope_call_logs e
        locals

    judged_logs : (calls : ℕ → List Value → Run Value) → ((f : ℕ) (vs : List Value) → P (calls f vs).log)
        → (values : Items) (arguments : List Value) (target : Target)
        → P (judging_of scoped calls values arguments target).log
    judged_logs calls h values arguments target =
        judges (λ e. eval (env_of scoped calls values) e arguments)
        (λ e. scoped_eval_logs calls h values e arguments) target

    value_logs : (target : Target) (o : Option ItemDecl) (judging : Judged Value) → P judging.log
        → P (variable_value target o judging).log
    value_logs target None judging h = none
    value_logs target (Some decl) judging h =
        giving_logs P none joined judging (value_or (absent target decl.pos decl.condition)) h

    pub call_logs : (values : Items) (before : List ℕ) (f : ℕ) (vs : List Value)
        → P (call scoped values before f vs).log
    call_logs values [] f vs = none
    call_logs values (item ∷ before) f vs = by (nat_eq item f) (call_logs values before)
      where
        judging : Judged Value
        judging = judging_of scoped (call scoped values before) values vs (variable scoped item)

        by : (b : Bool) → ((g : ℕ) (ws : List Value) → P (call scoped values before g ws).log)
            → P (if b then variable_value (variable scoped item) (slice_get scoped.items item)
            (judging_of scoped (call scoped values before) values vs
            (variable scoped item)) else call scoped values before f vs).log
        by true rest =
            value_logs (variable scoped item) (slice_get scoped.items item)
            (judging_of scoped (call scoped values before) values vs (variable scoped item))
            (judged_logs (call scoped values before) rest values vs (variable scoped item))
        by false rest = rest f vs

    module _ (before : List ℕ) (values : Items) (item : ℕ) where
      abbrev judging_at : Option ℕ → Judged Value
      judging_at inner = judging_of scoped (call scoped values before) values [] (target_in scoped item inner)

      pub judging_logs : (inner : Option ℕ) → P (judging_at inner).log
      judging_logs inner =
          judged_logs (call scoped values before) (call_logs values before) values [] (target_in scoped item inner)

      module _ (one : (inner : Option ℕ) (found : Option (Held Value)) → (judging_at inner).end ≡ Ok found
          → P (record { target = target_in scoped item inner; by = held_position found } ∷ [])) where
        decided_logs : (inner : Option ℕ) → P (decided (target_in scoped item inner) (judging_at inner)).log
        decided_logs inner = then_logs P none joined (judging_at inner)
            (λ found. record {
              log = record { target = target_in scoped item inner; by = held_position found } ∷ [];
              end =
                  Ok found;
            })
            (judging_logs inner) (one inner)

        passed_logs : (at : Pos) (n : ℕ) (decls : List ItemDecl)
            → P (passed_input (λ m. judging_at (Some m)) (variable_of_called scoped item) at n decls).log
        passed_logs at n [] = none
        passed_logs at n (decl ∷ decls) =
            front_logs P none joined (if may_be_given decl.kind then giving
            (decided (target_in scoped item (Some n)) (judging_at (Some n)))
            (passed (target_in scoped item (Some n)) at decl) else gives None)
            (passed_input (λ m. judging_at (Some m)) (variable_of_called scoped item) at (n + 1) decls)
            (by (may_be_given decl.kind)) (passed_logs at (n + 1) decls)
          where
            by : (b : Bool) → P (if b then giving (decided (target_in scoped item (Some n)) (judging_at (Some n)))
                (passed (target_in scoped item (Some n)) at decl) else gives None).log
            by true =
                giving_logs P none joined (decided (target_in scoped item (Some n)) (judging_at (Some n)))
                (passed (target_in scoped item (Some n)) at decl) (decided_logs (Some n))
            by false = none

        called_logs : (decl : ItemDecl) (s : ℕ) → P (called_value scoped before values item decl s).log
        called_logs decl s =
            then_logs P none joined (passed_input (λ m. judging_at (Some m)) (variable_of_called scoped item) decl.pos 0
            (items_of scoped s))
            (λ input. and_then (scoped.runs s input) (λ outputs. gives (value.Structure outputs)))
            (passed_logs decl.pos 0 (items_of scoped s))
            (λ input is. then_logs P none joined (scoped.runs s input) (λ outputs. gives (value.Structure outputs))
            (runs s input)
            (λ outputs also. none))

        defined_logs : (decl : ItemDecl) (ps : List Ty) → P (defined_value scoped before values item decl ps).log
        defined_logs decl [] =
            then_logs P none joined (variable_value (variable scoped item) (Some decl)
            (decided (variable scoped item) (judging_at None))) (λ v. gives (Some v))
            (value_logs (variable scoped item) (Some decl) (decided (variable scoped item) (judging_at None))
            (decided_logs None)) (λ v is. none)
        defined_logs decl (t ∷ ts) = none

        ungiven_logs : (decl : ItemDecl) (k : Kind) → P (ungiven_value scoped before values item decl k).log
        ungiven_logs decl (kind.Called s) =
            then_logs P none joined (called_value scoped before values item decl s) (λ v. gives (Some v))
            (called_logs decl s)
            (λ v is. none)
        ungiven_logs decl kind.Input = defined_logs decl decl.params
        ungiven_logs decl kind.InputOutput = defined_logs decl decl.params
        ungiven_logs decl kind.Context = defined_logs decl decl.params
        ungiven_logs decl kind.ContextOutput = defined_logs decl decl.params
        ungiven_logs decl kind.Internal = defined_logs decl decl.params
        ungiven_logs decl kind.Output = defined_logs decl decl.params

        pub open_logs : (o : Option ItemDecl) → P (item_value scoped before values item None o).log
        open_logs None = none
        open_logs (Some decl) = ungiven_logs decl decl.kind

    abbrev last_of : Items → Run (List Value)
    last_of values =
        asserted (λ e. eval (env_of scoped (call scoped values
        (backwards scoped.order)) values) e []) scoped.assertions (plain (outputs_of scoped.items values))

    pub last_logs : (values : Items) → P (last_of values).log
    last_logs values =
        asserted_logs P none joined (λ e. eval (env_of scoped (call scoped values (backwards scoped.order)) values)
        e [])
        (λ e. scoped_eval_logs (call scoped values (backwards scoped.order))
        (call_logs values (backwards scoped.order)) values e [])
        scoped.assertions (plain (outputs_of scoped.items values)) none

    module _ (one : (item : ℕ) (inner : Option ℕ) (by : Option Pos) → P
        (record { target = target_in scoped item inner; by = by } ∷ [])) (input : Items) where
      given_logs : (before : List ℕ) (values : Items) (item : ℕ) (o : Option Value) (d : Option ItemDecl)
          → P (item_value scoped before values item o d).log
      given_logs before values item (Some v) d = none
      given_logs before values item None d =
          open_logs before values item (λ inner found is. one item inner (held_position found)) d

      items_logs : (left before : List ℕ) (values : Items) → P (run_items scoped input before values left).log
      items_logs [] before values = none
      items_logs (item ∷ left) before values =
          then_logs P none joined (item_value scoped before values item (entry_at item input)
          (slice_get scoped.items item))
          (λ v. run_items scoped input (item ∷ before) (with_entry item v values) left)
          (given_logs before values item (entry_at item input) (slice_get scoped.items item))
          (λ v is. items_logs left (item ∷ before) (with_entry item v values))

      pub scoped_logs : P (run_scoped scoped input).log
      scoped_logs = then_logs P none joined (run_items scoped input [] (no_values scoped.items) scoped.order)
          last_of
          (items_logs scoped.order [] (no_values scoped.items)) (λ values is. last_logs values)
