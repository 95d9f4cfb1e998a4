-- The outcome of a scope of a calculus on an input, and the deciders of the run.
use Rattle.std.specs.Prelude.{ℕ, List, Option, Some, None, slice_get}
use Rattle.cat_value.specs.declared.value.Value.{Value}
use Rattle.cat_value.specs.declared.outcome.Outcome.{Outcome}
use Rattle.cat_value.specs.declared.declaration.ItemDecl.{ItemDecl}
use Rattle.cat_value.specs.declared.declaration.Scope.{Scope}
use Rattle.cat_scope.specs.declared.stop.Stop.TheVariants.{Stuck}
use Rattle.cat_scope.specs.Runs.{Decider, Run, stops}
use Rattle.cat_scope.specs.Calls.{Items, Runs, Scoped}
use Rattle.cat_scope.specs.Running.{run_by, run_scoped, backwards}
use Rattle.cat_scope.specs.Outcomes.{outcome_of}
use Rattle.cat_calc.specs.declared.calcs.CalcScope.{CalcScope}
use Rattle.cat_calc.specs.declared.calcs.Calc.{Calc}
use Rattle.cat_calc.specs.Reducing.{judged_by}

-- a scope of a calculus: its targets are judged by their terms
abbrev pub calc_scoped : ℕ → List ItemDecl → CalcScope → List Scope → Runs → Scoped
calc_scoped n items scope scopes runs = record {
  scope = n;
  items = items;
  order = scope.order;
  rounding = scope.rounding;
  judging = judged_by scope.terms;
  assertions = scope.assertions;
  scopes = scopes;
  runs = runs;
}

-- the scope of that number, where it is declared and has terms
abbrev pub run_terms : List Scope → Runs → ℕ → Option Scope → Option CalcScope → Items → Run (List Value)
run_terms scopes runs n None terms input = stops Stuck
run_terms scopes runs n (Some scope) None input = stops Stuck
run_terms scopes runs n (Some scope) (Some terms) input = run_scoped (calc_scoped n scope.items terms scopes runs) input

-- what a scope gives for an input, by the declarations of the scopes, their terms and their order
unfoldable pub run_of_terms : List Scope → List CalcScope → List ℕ → Runs
run_of_terms scopes terms order scope input =
    run_by (λ n runs. run_terms scopes runs n (slice_get scopes n) (slice_get terms n)) (backwards order) scope input

-- what a scope of a calculus gives for an input
abbrev pub calc_run : Calc → Runs
calc_run calc = run_of_terms calc.decls.scopes calc.scopes calc.scope_order

-- the outcome of a scope on an input
abbrev pub calc_outcome : Calc → ℕ → Items → Option Outcome
calc_outcome calc scope input = outcome_of (calc_run calc scope input).end

-- the targets whose judging ended Held or Empty in that run, functions aside, in the order in which these judgings end
abbrev pub calc_deciders : Calc → ℕ → Items → List Decider
calc_deciders calc scope input = (calc_run calc scope input).log
