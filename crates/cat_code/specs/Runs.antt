-- What a run gives: its log with its end.
use Rattle.std.specs.Prelude.{◌≡◌, ℕ, zero, suc, List, ◌++◌, Option, Some, None, slice_get}
use Rattle.cat_value.specs.declared.value.Value.{Value}
use Rattle.cat_scope.specs.Runs.{Decider, Run, plain}
use Rattle.cat_scope.specs.Calls.{Items}
use Rattle.cat_code.specs.declared.instr.Instr.{Instr}
use Rattle.cat_code.specs.declared.code.Tables.{Tables}
use Rattle.cat_code.specs.States.{State, Next, Goes, Over, stuck, started}
use Rattle.cat_code.specs.Machine.{act}

-- what a scope gives
abbrev pub Whole : Type 0
Whole = Run (List Value)

-- an instruction, where there is one
abbrev pub act_at : Tables → Option Instr → State → Next
act_at tables None s = stuck
act_at tables (Some i) s = act tables i s

-- what the instruction at the place of a state does
abbrev pub step : Tables → List Instr → State → Next
step tables instructions s = act_at tables (slice_get instructions s.place) s

-- a log in front of a run
abbrev pub behind_log : List Decider → Option Whole → Option Whole
behind_log log None = None
behind_log log (Some run) = Some (record { log = log ++ run.log; end = run.end })

-- a run from where a step leads
abbrev pub followed : Next → (State → Option Whole) → Option Whole
followed (Over end) go = Some (plain end)
followed (Goes log s) go = behind_log log (go s)

-- the run from a state, where it ends within n steps
abbrev pub within : Tables → List Instr → ℕ → State → Option Whole
within tables instructions zero s = None
within tables instructions (suc n) s = followed (step tables instructions s) (within tables instructions n)

-- some number of steps from the entry of a scope, with the input in its slots, ends with this log and this end
pub record Gives (tables : Tables) (instructions : List Instr) (scope : ℕ) (input : Items) (run : Whole) : Type 0 where
  pub entry : ℕ
  pub is_entry : slice_get tables.scopes scope ≡ Some entry
  pub steps : ℕ
  pub ends : within tables instructions steps (started entry input) ≡ Some run
