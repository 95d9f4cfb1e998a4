-- What a sink means, and what a put promises by its answer.
use Rattle.std.specs.Prelude.{◌≡◌, ℕ, ◌+◌, ◌<◌, ◌≤◌, List, length, take, Option, Some, None, Result, Ok, Err, IfSome, ⊤}
use Rattle.std.specs.Io.KnownBytes.{Appends}
use Rattle.cat_io.specs.Count.{FaultsRose}
use Rattle.cat_io.specs.declared.sink.SinkFault.{SinkFault}

-- the bytes that a sink took and the room that it has, where it tells them, and how often it failed
pub record Sunk : Type 0 where
  pub taken : Option (List ℕ)
  pub room : Option ℕ
  pub faults : ℕ

-- a told room is less by n
abbrev pub Shrinks : Option ℕ → Option ℕ → ℕ → Type 0
Shrinks None new n = ⊤
Shrinks (Some r) None n = ⊥
Shrinks (Some r) (Some s) n = r ≡ s + n

-- known bytes grow by the first of these bytes, none of them or some or all
abbrev pub AppendsPrefix : Option (List ℕ) → Option (List ℕ) → List ℕ → Type 0
AppendsPrefix old new bytes = (n : ℕ) × Appends old new (take n bytes)

-- the whole piece was taken, and where a room is told no fault was counted
pub record Took (old new : Sunk) (piece : List ℕ) : Type 0 where
  pub taken : Appends old.taken new.taken piece
  pub room : Shrinks old.room new.room (length piece)
  pub steady : IfSome old.room (λ room. new.faults ≡ old.faults)
  pub no_fewer : old.faults ≤ new.faults

-- a front of the piece was taken, a fault was counted, and a told room is too small
pub record FailedAt (old new : Sunk) (piece : List ℕ) : Type 0 where
  pub front : AppendsPrefix old.taken new.taken piece
  pub full : IfSome old.room (λ room. room < length piece)
  pub rose : FaultsRose old.faults new.faults
  pub no_fewer : old.faults ≤ new.faults

-- what a put of a piece promises
abbrev pub Puts : List ℕ → Sunk → Sunk → Result (Unit {0}) SinkFault → Type 0
Puts piece old new (Ok _) = Took old new piece
Puts piece old new (Err _) = FailedAt old new piece
