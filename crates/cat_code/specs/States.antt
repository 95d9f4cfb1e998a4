-- The states of the machine; of each stack the top stands first.
use Rattle.std.specs.Prelude.{ℕ, ◌+◌, List, [], ◌∷◌, Option, Result, Err}
use Rattle.cat_value.specs.declared.value.Value.{Value}
use Rattle.cat_scope.specs.declared.stop.Stop.{Stop}
use Rattle.cat_scope.specs.declared.stop.Stop.TheVariants.{Stuck}
use Rattle.cat_scope.specs.Runs.{Decider}
use Rattle.cat_scope.specs.Judging.{Held}
use Rattle.cat_scope.specs.Calls.{Items}

-- a frame that waits for a call: its slots, where the called frame doesn't share them, its locals, and where it goes on
pub record Frame : Type 0 where
  pub slots : Option Items
  pub locals : List Value
  pub back : ℕ

-- a loop: the elements that are left, and those that it collected, where it does
pub record Loop : Type 0 where
  pub left : List Value
  pub collected : Option (List Value)

-- a default frame: the target of its last check, and the definitions that hold, each with its value
pub record DefaultFrame : Type 0 where
  pub checked : Option ℕ
  pub held : List (Held Value)

-- a scope that is not entered yet, with what was passed to its slots
pub record Pending : Type 0 where
  pub scope : ℕ
  pub slots : Items

-- a state: the number of the next instruction, the stacks, and the slots and locals of the present frame
pub record State : Type 0 where
  pub place : ℕ
  pub operands : List Value
  pub defaults : List DefaultFrame
  pub loops : List Loop
  pub slots : Items
  pub locals : List Value
  pub pending : List Pending
  pub frames : List Frame

-- where a step leads: to a state, with what it logs, or to the end of the run
pub data Next : Type 0 where
  Goes : List Decider → State → Next
  Over : Result (List Value) Stop → Next

-- a step that no valid code takes
abbrev pub stuck : Next
stuck = Over (Err Stuck)

-- a state at another instruction
abbrev pub at : ℕ → State → State
at p s = record s { place = p }

-- goes on to the following instruction
abbrev pub on : State → Next
on s = Goes [] (record s { place = s.place + 1 })

-- goes to another instruction
abbrev pub to : ℕ → State → Next
to p s = Goes [] (at p s)

-- a state with one operand more
abbrev pub push : Value → State → State
push v s = record s { operands = v ∷ s.operands }

-- the input in the slots, at the entry of its scope
abbrev pub started : ℕ → Items → State
started entry input = record {
  place = entry;
  operands = [];
  defaults = [];
  loops = [];
  slots = input;
  locals = [];
  pending = [];
  frames = [];
}
