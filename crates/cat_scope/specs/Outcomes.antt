-- The outcome of a scope of a program on an input, and the deciders of the run: the two parts of one run.
use Rattle.std.specs.Prelude.{ℕ, List, Option, Some, None, Result, Ok, Err}
use Rattle.cat_value.specs.declared.value.Value.{Value}
use Rattle.cat_value.specs.declared.outcome.Outcome.{Outcome}
use Rattle.cat_value.specs.declared.outcome.Outcome.TheVariants as outcome
use Rattle.cat_scope.specs.declared.stop.Stop.{Stop}
use Rattle.cat_scope.specs.declared.stop.Stop.TheVariants as stop
use Rattle.cat_scope.specs.declared.programs.Program.{Program}
use Rattle.cat_scope.specs.Calls.{Items}
use Rattle.cat_scope.specs.Runs.{Decider}
use Rattle.cat_scope.specs.Running.{scope_run}

-- how a run ends; a stuck one has no outcome
abbrev pub outcome_of : Result (List Value) Stop → Option Outcome
outcome_of (Ok outputs) = Some (outcome.Value outputs)
outcome_of (Err (stop.Conflict target positions)) = Some (outcome.Conflict target positions)
outcome_of (Err (stop.NoValue target pos)) = Some (outcome.NoValue target pos)
outcome_of (Err (stop.Fault fault pos)) = Some (outcome.Fault fault pos)
outcome_of (Err stop.Stuck) = None

-- the outcome of a scope on an input
abbrev pub scope_outcome : Program → ℕ → Items → Option Outcome
scope_outcome program scope input = outcome_of (scope_run program scope input).end

-- the targets whose judging ended Held or Empty in that run, functions aside, in the order in which these judgings end
abbrev pub deciders : Program → ℕ → Items → List Decider
deciders program scope input = (scope_run program scope input).log
