-- What a run of code gives: its outcome, its steps and its log, and what it leaves in the pool.
use Rattle.std.specs.Prelude.{◌≡◌, ◌≤◌, ◌<◌, ℕ, ◌+◌, min, ⊤, List, [], ◌∷◌, length, Option, Some, None, IsSome}
use Rattle.std.specs.Prelude.{slice_get}
use Rattle.cat_value.specs.declared.outcome.Outcome.{Outcome}
use Rattle.cat_value.specs.declared.outcome.Outcome.TheVariants as outcome
use Rattle.cat_value.specs.declared.value.Value.{Value}
use Rattle.cat_value.specs.declared.value.Value.TheViews as value
use Rattle.cat_scope.specs.Calls.{Items}
use Rattle.cat_scope.specs.Outcomes.{outcome_of}
use Rattle.cat_code.specs.declared.code.Constant.{Constant}
use Rattle.cat_code.specs.declared.code.Code.{Code}
use Rattle.cat_code.specs.Runs.{Gives, Whole, within}
use Rattle.cat_code.specs.States.{started}
use Rattle.cat_pool.specs.Nodes.{Standing, values}
use Rattle.cat_pool.specs.Loading.{node_count}
use Rattle.cat_machine.specs.declared.log.LogEntry.{LogEntry}
use Rattle.cat_machine.specs.States.{decided}

-- the code gives some outcome
pub record IsGiven (code : Code) (scope : ℕ) (input : Items) : Type 0 where
  pub run : Whole
  pub gives : Gives code.tables code.instructions scope input run
  pub has_outcome : IsSome (outcome_of run.end)

-- an outcome is the one that the code gives
abbrev pub GivesOutcome : Code → ℕ → Items → Outcome → Type 0
GivesOutcome code scope input made =
    (run : Whole) → Gives code.tables code.instructions scope input run → outcome_of run.end ≡ Some made

-- a run takes exactly so many steps: it has ended after them, and not after fewer
pub record TakesSteps (code : Code) (scope : ℕ) (input : Items) (n : ℕ) : Type 0 where
  pub entry : ℕ
  pub is_entry : slice_get code.tables.scopes scope ≡ Some entry
  pub run : Whole
  pub ends : within code.tables code.instructions n (started entry input) ≡ Some run
  pub no_fewer : (k : ℕ) → k < n → within code.tables code.instructions k (started entry input) ≡ None

-- a count is that of the steps, or 2^64 - 1 where there are more
abbrev pub Counts : Code → ℕ → Items → ℕ → Type 0
Counts code scope input count = (n : ℕ) → TakesSteps code scope input n → count ≡ min n 18446744073709551615

-- a log, read through the tables, is that of the run
abbrev pub Logs : Code → ℕ → Items → List LogEntry → Type 0
Logs code scope input log =
    (run : Whole) → Gives code.tables code.instructions scope input run → decided code.tables log ≡ run.log

-- the values of the constants
abbrev pub constant_values : List Constant → List Value
constant_values [] = []
constant_values (c ∷ cs) = c.value ∷ constant_values cs

-- the nodes of the constants
abbrev pub constant_count : List Constant → ℕ
constant_count [] = 0
constant_count (c ∷ cs) = node_count c.value + constant_count cs

-- the nodes of an entry, where it is given
abbrev pub entry_count : Option Value → ℕ
entry_count None = 0
entry_count (Some v) = node_count v

-- the nodes of what is given
abbrev pub given_count : Items → ℕ
given_count [] = 0
given_count (entry ∷ input) = entry_count entry + given_count input

-- some node stands for the structure of the outputs
abbrev pub HasOutputs : List Standing → Outcome → Type 0
HasOutputs nodes (outcome.Value vs) = (r : ℕ) × (slice_get (values nodes) r ≡ Some (value.Structure vs))
HasOutputs nodes _ = ⊤

-- at most the nodes of the constants, those of what is given, and one for each step are new, and the outputs are there
pub record Grows (code : Code) (scope : ℕ) (input : Items) (old new : List Standing) (made : Outcome) : Type 0 where
  pub few : (n : ℕ) → TakesSteps code scope input n
      → length new ≤ length old + constant_count code.tables.constants + given_count input + n
  pub outputs : HasOutputs new made
