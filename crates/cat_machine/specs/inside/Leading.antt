-- What one step of a machine leads to, and what many do.
use Rattle.std.specs.Prelude.{◌≡◌, ◌≤◌, ◌<◌, ◌+◌, ℕ, min, List, ◌++◌, length, Some, None, Result, Ok, Err}
use Rattle.std.specs.declared.alloc.AllocError.{AllocError}
use Rattle.cat_scope.specs.Runs.{Decider}
use Rattle.cat_code.specs.declared.code.Code.{Code}
use Rattle.cat_code.specs.Runs.{behind_log, step, within}
use Rattle.cat_code.specs.States.{State, Goes, Over}
use Rattle.cat_pool.specs.Loading.{Extends}
use Rattle.cat_machine.specs.declared.machine.Machine.{Machine}
use Rattle.cat_machine.specs.declared.machine.End.{End}
use Rattle.cat_machine.specs.States.{decided, state_at}
use Rattle.cat_machine.specs.Steps.{EndWithin, OneMore, behind, ending}
use Rattle.cat_machine.specs.inside.Machines.{IsMachine}

-- a machine at a place, behind so many steps
pub record Stand : Type 0 where
  pub place : ℕ
  pub count : ℕ
  pub machine : Machine

-- the same from its parts
abbrev pub stand : ℕ → ℕ → Machine → Stand
stand place count machine = record { place = place; count = count; machine = machine }

-- the state that it stands for
abbrev pub state_of : Code → Stand → State
state_of code at = state_at code.tables at.place at.machine

-- so many steps more are counted, up to 2^64 - 1
abbrev pub counted : ℕ → ℕ → ℕ
counted before more = min (before + more) 18446744073709551615

-- one step leads from a machine to another
pub record GoesOn (code : Code) (first later : Stand) : Type 0 where
  pub machine : IsMachine code.tables later.machine
  pub leads : behind (decided code.tables first.machine.log) (step code.tables code.instructions (state_of code first))
      ≡ Goes (decided code.tables later.machine.log) (state_of code later)
  pub count : later.count ≡ counted first.count 1
  pub pool : OneMore first.machine.pool later.machine.pool

-- one step ends the run
pub record StopsAt (code : Code) (first last : Stand) (end : End) : Type 0 where
  pub machine : IsMachine code.tables last.machine
  pub stops : step code.tables code.instructions (state_of code first) ≡ Over (ending code.tables last.machine end)
  pub log : last.machine.log ≡ first.machine.log
  pub within : EndWithin last.machine end
  pub count : last.count ≡ counted first.count 1
  pub pool : OneMore first.machine.pool last.machine.pool

-- what a step ends in that leads nowhere: where memory ran out, all nodes stay
abbrev pub StopsSo : Code → Stand → Result End AllocError → Stand → Type 0
StopsSo code first (Ok end) last = StopsAt code first last end
StopsSo code first (Err e) last = Extends first.machine.pool last.machine.pool

-- from one machine so many steps lead to another: what runs from there come to, those from here come to after so many
-- steps more, with what was logged between them in front
pub record Leads (code : Code) (first later : Stand) (taken : ℕ) : Type 0 where
  pub machine : IsMachine code.tables later.machine
  pub log : List Decider
  pub logged : decided code.tables later.machine.log ≡ decided code.tables first.machine.log ++ log
  pub count : later.count ≡ counted first.count taken
  pub pool : Extends first.machine.pool later.machine.pool
  pub few : length later.machine.pool ≤ length first.machine.pool + taken
  pub runs : (n : ℕ) → within code.tables code.instructions (taken + n) (state_of code first)
      ≡ behind_log log (within code.tables code.instructions n (state_of code later))
  pub going : (k : ℕ) → k ≤ taken → within code.tables code.instructions k (state_of code first) ≡ None

-- a run that has ended: exactly so many steps end it
pub record EndsAt (code : Code) (first last : Stand) (end : End) : Type 0 where
  pub machine : IsMachine code.tables last.machine
  pub within_pool : EndWithin last.machine end
  pub taken : ℕ
  pub log : List Decider
  pub logged : decided code.tables last.machine.log ≡ decided code.tables first.machine.log ++ log
  pub count : last.count ≡ counted first.count taken
  pub pool : Extends first.machine.pool last.machine.pool
  pub few : length last.machine.pool ≤ length first.machine.pool + taken
  pub ends : within code.tables code.instructions taken (state_of code first)
      ≡ Some (record { log = log; end = ending code.tables last.machine end })
  pub no_fewer : (k : ℕ) → k < taken → within code.tables code.instructions k (state_of code first) ≡ None

-- what a run ends in: where memory ran out, all nodes stay
abbrev pub EndsSo : Code → Stand → Result End AllocError → Stand → Type 0
EndsSo code first (Ok end) last = EndsAt code first last end
EndsSo code first (Err e) last = Extends first.machine.pool last.machine.pool
