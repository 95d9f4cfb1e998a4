-- What a scope gives for an input: its items in their order, then its assertions, then its outputs.
use Rattle.std.specs.Prelude.{ℕ, zero, suc, nat_eq, List, [], ◌∷◌, Option, Some, None, Result, Ok, Err, slice_get}
use Rattle.std.specs.Prelude.{if◌then◌else◌}
use Rattle.cat_value.specs.declared.value.Value.{Value}
use Rattle.cat_value.specs.declared.declaration.ItemDecl.{ItemDecl}
use Rattle.cat_value.specs.declared.declaration.Scope.{Scope}
use Rattle.cat_value.specs.declared.outcome.FaultKind.TheVariants.{AssertionFailed}
use Rattle.cat_scope.specs.declared.stop.Stop.{Stop}
use Rattle.cat_scope.specs.declared.stop.Stop.TheVariants.{Fault, Stuck}
use Rattle.cat_scope.specs.declared.expr.Expr.{Expr}
use Rattle.cat_scope.specs.declared.defs.Assertion.{Assertion}
use Rattle.cat_scope.specs.declared.defs.Body.{Body}
use Rattle.cat_scope.specs.declared.programs.Program.{Program}
use Rattle.cat_scope.specs.Replies.{known, with_front}
use Rattle.cat_scope.specs.Runs.{Run, plain, gives, stops, and_then, choose}
use Rattle.cat_value.specs.Inputs.{is_output}
use Rattle.cat_scope.specs.Targets.{judge_target}
use Rattle.cat_scope.specs.Eval.{eval}
use Rattle.cat_scope.specs.Calls.{Items, Runs, Scoped, env_of, call}
use Rattle.cat_scope.specs.ItemValues.{item_value}

-- what is given at an item
abbrev pub entry_at : ℕ → Items → Option Value
entry_at item [] = None
entry_at zero (v ∷ vs) = v
entry_at (suc item) (v ∷ vs) = entry_at item vs

-- the values with one more item done
abbrev pub with_entry : ℕ → Option Value → Items → Items
with_entry item v [] = []
with_entry zero v (w ∷ ws) = v ∷ ws
with_entry (suc item) v (w ∷ ws) = w ∷ with_entry item v ws

-- the items that are left, in their order, behind those that stand before, the last of these first
abbrev pub run_items : Scoped → Items → List ℕ → Items → List ℕ → Run Items
run_items scoped input before values [] = gives values
run_items scoped input before values (item ∷ left) =
    and_then (item_value scoped before values item (entry_at item input) (slice_get scoped.items item))
    (λ v. run_items scoped input (item ∷ before) (with_entry item v values) left)

-- no item is done
abbrev pub no_values : List ItemDecl → Items
no_values [] = []
no_values (item ∷ items) = None ∷ no_values items

-- the assertions in source order: a false one is a fault at its keyword
abbrev pub asserted : {A : Type 0} → (Expr → Run Value) → List Assertion → Run A → Run A
asserted value [] last = last
asserted value (a ∷ rest) last =
    and_then (value a.condition) (λ t. choose t (asserted value rest last) (stops (Fault AssertionFailed a.keyword)))

-- the values of the outputs, in the order of their declarations
abbrev pub outputs_of : List ItemDecl → Items → Result (List Value) Stop
outputs_of [] values = Ok []
outputs_of (item ∷ items) [] = Err Stuck
outputs_of (item ∷ items) (v ∷ values) =
    if is_output item.kind
    then with_front (known v) (outputs_of items values)
    else outputs_of items values

-- numbers, the last of them first
abbrev pub moved : List ℕ → List ℕ → List ℕ
moved ns [] = ns
moved ns (m ∷ ms) = moved (m ∷ ns) ms

-- a list of numbers from its end
abbrev pub backwards : List ℕ → List ℕ
backwards ns = moved [] ns

-- a scope on an input
abbrev pub run_scoped : Scoped → Items → Run (List Value)
run_scoped scoped input =
    and_then (run_items scoped input [] (no_values scoped.items) scoped.order)
    (λ values. asserted
    (λ e. eval (env_of scoped (call scoped values (backwards scoped.order)) values) e [])
    scoped.assertions (plain (outputs_of scoped.items values)))

-- a scope of a program, by its body: its targets are judged by their definitions
abbrev pub scoped_of : ℕ → List ItemDecl → Body → List Scope → Runs → Scoped
scoped_of n items body scopes runs = record {
  scope = n;
  items = items;
  order = body.order;
  rounding = body.rounding;
  judging = λ value target. judge_target value target body.defs;
  assertions = body.assertions;
  scopes = scopes;
  runs = runs;
}

-- the scope of that number, where it is declared and has a body
abbrev pub run_scope : List Scope → Runs → ℕ → Option Scope → Option Body → Items → Run (List Value)
run_scope scopes runs n None body input = stops Stuck
run_scope scopes runs n (Some scope) None input = stops Stuck
run_scope scopes runs n (Some scope) (Some body) input = run_scoped (scoped_of n scope.items body scopes runs) input

-- a scope among those that stand before, the last of them first, where each gives what `each` tells: it runs only those
-- that stand before itself
abbrev pub run_by : (ℕ → Runs → Items → Run (List Value)) → List ℕ → Runs
run_by each [] scope input = stops Stuck
run_by each (n ∷ before) scope input =
    if nat_eq n scope then each n (run_by each before) input else run_by each before scope input

-- the same by the bodies of a program
abbrev pub run : List Scope → List Body → List ℕ → Runs
run scopes bodies = run_by (λ n runs. run_scope scopes runs n (slice_get scopes n) (slice_get bodies n))

-- what a scope gives for an input, by the declarations of the scopes, their bodies and their order
unfoldable pub run_of : List Scope → List Body → List ℕ → Runs
run_of scopes bodies order scope input = run scopes bodies (backwards order) scope input

-- what a scope of a program gives for an input
abbrev pub scope_run : Program → Runs
scope_run program = run_of program.decls.scopes program.bodies program.scope_order
