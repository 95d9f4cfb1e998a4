-- A scope gives the same where the scopes that it calls do.
use Rattle.std.proofs.Common.{◌≡◌, ℕ, IsTrue, List, [], ◌∷◌, Option, Some}
use Rattle.std.proofs.Common.{None, slice_get, refl, ap, ◌∙◌, if◌then◌else◌}
use mathlib.Core.Path.{fun_ext}
use Rattle.std.specs.Prelude.{nat_eq}
use Rattle.cat_value.specs.declared.value.Value.{Value}
use Rattle.cat_value.specs.declared.value.Value.TheViews as value
use Rattle.cat_value.specs.declared.ty.Ty.{Ty}
use Rattle.cat_value.specs.declared.outcome.Target.{Target}
use Rattle.cat_value.specs.declared.outcome.FaultKind.TheVariants.{AssertionFailed}
use Rattle.cat_value.specs.declared.declaration.Kind.{Kind}
use Rattle.cat_value.specs.declared.declaration.Kind.TheVariants as kind
use Rattle.cat_value.specs.declared.declaration.ItemDecl.{ItemDecl}
use Rattle.cat_value.specs.declared.declaration.Scope.{Scope}
use Rattle.cat_scope.specs.declared.stop.Stop.TheVariants.{Fault}
use Rattle.cat_scope.specs.declared.expr.Expr.{Expr}
use Rattle.cat_scope.specs.declared.defs.Def.{Def}
use Rattle.cat_scope.specs.declared.defs.Body.{Body}
use Rattle.cat_scope.specs.declared.defs.Assertion.{Assertion}
use Rattle.cat_scope.specs.Replies.{known}
use Rattle.cat_scope.specs.Runs.{Run, plain, gives, stops, and_then, giving, choose}
use Rattle.cat_scope.specs.Names.{AllHave}
use Rattle.cat_scope.specs.Judging.{Judged, decided}
use Rattle.cat_scope.specs.Targets.{same_target}
use Rattle.cat_scope.specs.Eval.{eval}
use Rattle.cat_scope.specs.Orders.{in_def, called_by_items}
use Rattle.cat_scope.specs.Mentions.{items_named, scopes_named}
use Rattle.cat_scope.specs.Calls.{Items, Runs, Scoped, variable, variable_of_called, items_of, call_input, env_of}
use Rattle.cat_scope.specs.Calls.{judging_of, variable_value, call}
use Rattle.cat_scope.specs.ItemValues.{passed_input, called_value, defined_value, ungiven_value, item_value}
use Rattle.cat_scope.specs.Running.{entry_at, with_entry, run_items, no_values, asserted, outputs_of, backwards}
use Rattle.cat_scope.specs.Running.{run_scoped, scoped_of}
use Rattle.cat_scope.proofs.Exported.{and_then_same}
use Rattle.cat_sound.specs.Rests.{TellSame, CallSame}
use Rattle.cat_sound.proofs.TargetTypes.{all_more}
use Rattle.cat_sound.proofs.RunEntries.{callee_at}
use Rattle.cat_sound.proofs.Rests.{names_alone}
use Rattle.cat_sound.proofs.JudgingSame.{DefSame, target_same, def_agrees}

-- ---- one scope, with two ways in which scopes that it calls are run

module _ (number : ℕ) (items : List ItemDecl) (body : Body) (scopes : List Scope) (runs : Runs) (others : Runs) where
  abbrev scoped : Scoped
  scoped = scoped_of number items body scopes runs

  abbrev other : Scoped
  other = scoped_of number items body scopes others

  -- what a scope gives is the same
  abbrev RunSame : ℕ → Type 0
  RunSame k = (input : Items) → scoped.runs k input ≡ others k input

  module _ (def_calls : AllHave (λ d. AllHave RunSame (in_def scopes_named d)) body.defs)
      (assertion_calls : AllHave (λ a. AllHave RunSame (scopes_named a.condition)) scoped.assertions)
      (item_calls : AllHave RunSame (called_by_items scoped.items)) where
    abbrev Calls : Type 0
    Calls = ℕ → List Value → Run Value

    abbrev SameCalls : Calls → Calls → Type 0
    SameCalls calls more = (f : ℕ) (arguments : List Value) → calls f arguments ≡ more f arguments

    call_same : (calls more : Calls) (values : Items) (k : ℕ) → RunSame k
        → CallSame (env_of scoped calls values) (env_of other more values) k
    call_same calls more values k h fields output =
        ap (λ (r : Run (List Value)). giving r (λ outputs. known (slice_get outputs output)))
        (h (call_input 0 fields (items_of scoped k)))

    calls_same : (calls more : Calls) (values : Items) (ks : List ℕ) → AllHave RunSame ks
        → AllHave (CallSame (env_of scoped calls values) (env_of other more values)) ks
    calls_same calls more values ks h =
        all_more RunSame (CallSame (env_of scoped calls values) (env_of other more values)) ks h
        (call_same calls more values)

    tells : (calls more : Calls) (values : Items) → SameCalls calls more → (ks : List ℕ)
        → AllHave (TellSame (env_of scoped calls values) (env_of other more values)) ks
    tells calls more values same [] = tt
    tells calls more values same (k ∷ ks) = (record { value = refl; call = same k }, tells calls more values same ks)

    defs_same : (calls more : Calls) (values : Items) (arguments : List Value) (target : Target)
        → SameCalls calls more → (defs : List Def) → AllHave (λ d. AllHave RunSame (in_def scopes_named d)) defs
        → AllHave (λ d. IsTrue (same_target d.target target) → DefSame
        (λ e. eval (env_of scoped calls values) e arguments) (λ e. eval (env_of other more values) e arguments) d) defs
    defs_same calls more values arguments target same [] h = tt
    defs_same calls more values arguments target same (d ∷ defs) h = (
      (λ one. def_agrees (env_of scoped calls values) (env_of other more values) arguments d refl
          (tells calls more values same (in_def items_named d)) (calls_same calls more values (in_def scopes_named d)
          h.0)),
      defs_same calls more values arguments target same defs h.1,
    )

    judged_same : (calls more : Calls) (values : Items) (arguments : List Value) (target : Target)
        → SameCalls calls more → judging_of scoped calls values arguments target ≡ judging_of other more values
        arguments target
    judged_same calls more values arguments target same =
        target_same (λ e. eval (env_of scoped calls values) e arguments)
        (λ e. eval (env_of other more values) e arguments) target body.defs
        (defs_same calls more values arguments target same body.defs def_calls)

    functions_same : (values : Items) (before : List ℕ)
        → SameCalls (call scoped values before) (call other values before)
    functions_same values [] f arguments = refl
    functions_same values (m ∷ before) f arguments =
        ap (λ (j : Judged Value). if nat_eq m f then variable_value (variable scoped m)
        (slice_get scoped.items m) j else call scoped values before f arguments)
        (judged_same (call scoped values before) (call other values before) values arguments (variable scoped m)
        (functions_same values before))
        ∙ ap (λ (r : Run Value). if nat_eq m f then variable_value (variable scoped m) (slice_get scoped.items m)
        (judging_of other (call other values before) values arguments (variable scoped m)) else r)
        (functions_same values before f arguments)

    -- ---- items

    called_same : (before : List ℕ) (values : Items) (item : ℕ) (decl : ItemDecl) (called : ℕ) → RunSame called
        → called_value scoped before values item decl called ≡ called_value other before values item decl called
    called_same before values item decl called h =
        ap (λ (judged_at : ℕ → Judged Value). and_then
        (passed_input judged_at (variable_of_called scoped item) decl.pos 0 (items_of scoped called))
        (λ input. and_then (scoped.runs called input) (λ outputs. gives (value.Structure outputs))))
        (fun_ext (λ n. judged_same (call scoped values before) (call other values before) values []
        (variable_of_called scoped item n) (functions_same values before)))
        ∙ and_then_same (passed_input (λ n. judging_of other (call other values before) values []
        (variable_of_called scoped item n)) (variable_of_called scoped item) decl.pos 0 (items_of scoped called))
        (λ input. and_then (scoped.runs called input) (λ outputs. gives (value.Structure outputs)))
        (λ input. and_then (others called input) (λ outputs. gives (value.Structure outputs)))
        (λ input. ap (λ (r : Run (List Value)). and_then r (λ outputs. gives (value.Structure outputs))) (h input))

    defined_same : (before : List ℕ) (values : Items) (item : ℕ) (decl : ItemDecl) (params : List Ty)
        → defined_value scoped before values item decl params ≡ defined_value other before values item decl params
    defined_same before values item decl [] =
        ap (λ (j : Judged Value). and_then (variable_value (variable scoped item) (Some decl)
        (decided (variable scoped item) j)) (λ v. gives (Some v)))
        (judged_same (call scoped values before) (call other values before) values [] (variable scoped item)
        (functions_same values before))
    defined_same before values item decl (t ∷ ts) = refl

    ungiven_same : (before : List ℕ) (values : Items) (item : ℕ) (decl : ItemDecl)
        → slice_get scoped.items item ≡ Some decl → (k : Kind) → decl.kind ≡ k
        → ungiven_value scoped before values item decl k ≡ ungiven_value other before values item decl k
    ungiven_same before values item decl at (kind.Called called) is =
        ap (λ (r : Run Value). and_then r (λ v. gives (Some v)))
        (called_same before values item decl called (callee_at RunSame scoped.items item decl called item_calls at is))
    ungiven_same before values item decl at kind.Input is = defined_same before values item decl decl.params
    ungiven_same before values item decl at kind.InputOutput is = defined_same before values item decl decl.params
    ungiven_same before values item decl at kind.Context is = defined_same before values item decl decl.params
    ungiven_same before values item decl at kind.ContextOutput is = defined_same before values item decl decl.params
    ungiven_same before values item decl at kind.Internal is = defined_same before values item decl decl.params
    ungiven_same before values item decl at kind.Output is = defined_same before values item decl decl.params

    item_same : (before : List ℕ) (values : Items) (item : ℕ) (given : Option Value) (o : Option ItemDecl)
        → slice_get scoped.items item ≡ o
        → item_value scoped before values item given o ≡ item_value other before values item given o
    item_same before values item (Some v) o at = refl
    item_same before values item None None at = refl
    item_same before values item None (Some decl) at = ungiven_same before values item decl at decl.kind refl

    items_same : (input : Items) (before : List ℕ) (values : Items) (left : List ℕ)
        → run_items scoped input before values left ≡ run_items other input before values left
    items_same input before values [] = refl
    items_same input before values (item ∷ left) =
        ap (λ (r : Run (Option Value)). and_then r
        (λ v. run_items scoped input (item ∷ before) (with_entry item v values) left))
        (item_same before values item (entry_at item input) (slice_get scoped.items item) refl)
        ∙ and_then_same (item_value other before values item (entry_at item input) (slice_get scoped.items item))
        (λ v. run_items scoped input (item ∷ before) (with_entry item v values) left)
        (λ v. run_items other input (item ∷ before) (with_entry item v values) left)
        (λ v. items_same input (item ∷ before) (with_entry item v values) left)

    -- ---- assertions

    assertions_same : (v w : Expr → Run Value) (assertions : List Assertion) (last : Run (List Value))
        → AllHave (λ a. v a.condition ≡ w a.condition) assertions
        → asserted v assertions last ≡ asserted w assertions last
    assertions_same v w [] last h = refl
    assertions_same v w (a ∷ rest) last h =
        ap (λ (r : Run Value). and_then r (λ t. choose t (asserted v rest last)
        (stops (Fault AssertionFailed a.keyword)))) h.0
        ∙ ap (λ (r : Run (List Value)). and_then (w a.condition)
        (λ t. choose t r (stops (Fault AssertionFailed a.keyword)))) (assertions_same v w rest last h.1)

    conditions_same : (calls more : Calls) (values : Items) → SameCalls calls more → (assertions : List Assertion)
        → AllHave (λ a. AllHave RunSame (scopes_named a.condition)) assertions
        → AllHave (λ a. eval (env_of scoped calls values) a.condition [] ≡ eval
        (env_of other more values) a.condition []) assertions
    conditions_same calls more values same [] h = tt
    conditions_same calls more values same (a ∷ rest) h = (
      names_alone (env_of scoped calls values) (env_of other more values) a.condition [] (record {
        rounding = refl;
        items = tells calls more values same (items_named a.condition);
        scopes = calls_same calls more values (scopes_named a.condition) h.0;
      }),
      conditions_same calls more values same rest h.1,
    )

    pub scoped_same : (input : Items) → run_scoped scoped input ≡ run_scoped other input
    scoped_same input =
        ap (λ (r : Run Items). and_then r (λ values. asserted
        (λ e. eval (env_of scoped (call scoped values
        (backwards scoped.order)) values) e []) scoped.assertions (plain (outputs_of scoped.items values))))
        (items_same input [] (no_values scoped.items) scoped.order)
        ∙ and_then_same (run_items other input [] (no_values scoped.items) scoped.order)
        (λ values. asserted (λ e. eval (env_of scoped
        (call scoped values (backwards scoped.order)) values) e []) scoped.assertions
        (plain (outputs_of scoped.items values)))
        (λ values. asserted (λ e. eval (env_of other
        (call other values (backwards scoped.order)) values) e []) scoped.assertions
        (plain (outputs_of scoped.items values)))
        (λ values. assertions_same (λ e. eval (env_of scoped
        (call scoped values (backwards scoped.order)) values) e [])
        (λ e. eval (env_of other (call other values (backwards scoped.order)) values) e [])
        scoped.assertions (plain (outputs_of scoped.items values))
        (conditions_same (call scoped values (backwards scoped.order))
        (call other values (backwards scoped.order)) values
        (functions_same values (backwards scoped.order)) scoped.assertions assertion_calls))
