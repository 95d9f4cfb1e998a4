-- What adding a piece to gathered bytes promises.
use Rattle.std.specs.Prelude.{◌≡◌, ◌⊎◌, ◌++◌, ◌≤◌, ℕ, List, [], length, Result, Ok, Err}
use Rattle.cat_io.specs.Sink.{Sunk, Took, FailedAt}
use Rattle.cat_io.specs.declared.sink.SinkFault.{SinkFault}

-- the most bytes that are gathered: 64 KiB
abbrev pub most_gathered : ℕ
most_gathered = 65536

-- a sink took some bytes whole, and failed at a piece behind them
pub record FailedBehind (bytes piece : List ℕ) (sink sunk : Sunk) : Type 0 where
  pub between : Sunk
  pub before : Took sink between bytes
  pub failed : FailedAt between sunk piece

-- what adding a piece to gathered bytes promises: it is gathered behind them, or alone and they are taken, or all are
-- taken, and never too much is gathered; or the sink failed at the bytes, or at the piece behind them, and none stay
abbrev pub Adds : List ℕ → List ℕ → List ℕ → Sunk → Sunk → Result (Unit {0}) SinkFault → Type 0
Adds piece old new sink sunk (Ok _) = (length new ≤ most_gathered)
    × (((new ≡ old ++ piece) × (sunk ≡ sink))
    ⊎ (((new ≡ piece) × Took sink sunk old) ⊎ ((new ≡ []) × Took sink sunk (old ++ piece))))
Adds piece old new sink sunk (Err _) = (new ≡ []) × (FailedAt sink sunk old ⊎ FailedBehind old piece sink sunk)
