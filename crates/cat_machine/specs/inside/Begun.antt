-- A machine at the start of a run, and at its end.
use Rattle.std.specs.Prelude.{◌≡◌, ◌≤◌, ℕ, ◌+◌, min, List, [], ◌∷◌, length, slice_get, Option, Some, None, IsSome}
use Rattle.std.specs.Prelude.{Result, Ok, Err}
use Rattle.std.specs.declared.alloc.AllocError.{AllocError}
use Rattle.cat_value.specs.declared.value.Value.{Value}
use Rattle.cat_value.specs.declared.outcome.Outcome.{Outcome}
use Rattle.cat_scope.specs.Calls.{Items}
use Rattle.cat_scope.specs.Outcomes.{outcome_of}
use Rattle.cat_code.specs.declared.code.Code.{Code}
use Rattle.cat_code.specs.declared.code.Tables.{Tables}
use Rattle.cat_code.specs.States.{started}
use Rattle.cat_pool.specs.Nodes.{Standing, AreBelow, seen_at, values}
use Rattle.cat_pool.specs.Loading.{Extends}
use Rattle.cat_machine.specs.declared.executing.Run.{Run}
use Rattle.cat_machine.specs.declared.machine.Machine.{Machine}
use Rattle.cat_machine.specs.declared.machine.End.{End}
use Rattle.cat_machine.specs.Running.{Counts, GivesOutcome, HasOutputs, Logs, TakesSteps, constant_values, given_count}
use Rattle.cat_machine.specs.States.{decided, slots_of, state_at}
use Rattle.cat_machine.specs.Steps.{EndWithin, ending}
use Rattle.cat_machine.specs.inside.Machines.{IsMachine, SlotsBelow}

-- a machine over a pool in which no run has begun
abbrev pub emptied : List Standing → Machine
emptied pool = record {
  pool = pool;
  operands = [];
  locals = [];
  slots = [];
  defaults = [];
  loops = [];
  pending = [];
  constants = [];
  truths = record { yes = None; no = None };
  log = [];
}

-- no run has begun
pub record IsEmpty (m : Machine) : Type 0 where
  pub is : m ≡ emptied m.pool

-- a slot has the node of an entry, where it is given
abbrev pub IsEntry : List Standing → Option Value → Option ℕ → Type 0
IsEntry nodes None None = Unit {0}
IsEntry nodes (Some v) (Some r) = slice_get (values nodes) r ≡ Some v
IsEntry nodes _ _ = ⊥

-- references are those of the constants, in their order
pub record AreConstants (tables : Tables) (nodes : List Standing) (refs : List ℕ) : Type 0 where
  pub values : seen_at nodes refs ≡ constant_values tables.constants
  pub below : AreBelow (length nodes) refs

-- the input is in the slots, and all else is as before
pub record HasInput (input : Items) (old new : Machine) : Type 0 where
  pub refs : List (Option ℕ)
  pub same : new ≡ record old { pool = new.pool; slots = (tt, refs) ∷ old.slots }
  pub values : slots_of new.pool refs ≡ input
  pub below : SlotsBelow (length new.pool) refs
  pub few : length new.pool ≡ length old.pool + given_count input

-- a machine stands for the start of a run, at any entry
pub record IsReady (code : Code) (input : Items) (before : List Standing) (m : Machine) : Type 0 where
  pub machine : IsMachine code.tables m
  pub state : (entry : ℕ) → state_at code.tables entry m ≡ started entry input
  pub log : m.log ≡ []
  pub few : length m.pool ≡ length before + given_count input

-- a run has ended: exactly so many steps take it to this end
pub record RunsTo (code : Code) (scope : ℕ) (input : Items) (before : List Standing) (end : End) (m : Machine)
    (count : ℕ) : Type 0 where
  pub machine : IsMachine code.tables m
  pub within_pool : EndWithin m end
  pub taken : ℕ
  pub steps : TakesSteps code scope input taken
  pub counted : count ≡ min taken 18446744073709551615
  pub log : decided code.tables m.log ≡ steps.run.log
  pub ends : steps.run.end ≡ ending code.tables m end
  pub pool : Extends before m.pool
  pub few : length m.pool ≤ length before + given_count input + taken

-- a run has ended, or memory ran out: then all nodes stay
abbrev pub RunsSo : Code → ℕ → Items → List Standing → Result End AllocError → Machine → ℕ → Type 0
RunsSo code scope input before (Ok end) m count = RunsTo code scope input before end m count
RunsSo code scope input before (Err e) m count = Extends before m.pool

-- a run has an end with an outcome, or memory ran out
abbrev pub HasEnd : Tables → Machine → Result End AllocError → Type 0
HasEnd tables m (Ok end) = IsMachine tables m × EndWithin m end × IsSome (outcome_of (ending tables m end))
HasEnd tables m (Err e) = Unit {0}

-- an outcome is that of a run that has ended
abbrev pub GivesEnd : Tables → Machine → Result End AllocError → Outcome → Type 0
GivesEnd tables m (Ok end) made = outcome_of (ending tables m end) ≡ Some made
GivesEnd tables m (Err e) made = ⊥

-- what a run over a pool that has the constants comes to: at most the nodes of what is given, and one for each step are
-- new, and the outputs are there
pub record RanTo (code : Code) (scope : ℕ) (input : Items) (before after : List Standing) (made : Run) : Type 0 where
  pub outcome : GivesOutcome code scope input made.outcome
  pub count : Counts code scope input made.steps
  pub log : Logs code scope input made.log
  pub few : (n : ℕ) → TakesSteps code scope input n → length after ≤ length before + given_count input + n
  pub outputs : HasOutputs after made.outcome

-- the same of a run that ended in a machine
abbrev pub RanIn : Code → ℕ → Items → List Standing → ℕ → Machine → Outcome → Type 0
RanIn code scope input before steps m made =
    RanTo code scope input before m.pool (record { outcome = made; steps = steps; log = m.log })
