-- Counts that are kept as a u64, which stay at its last value.
use Rattle.std.specs.Prelude.{ℕ, ◌+◌, ◌-◌, ◌^◌, ◌≤◌, min}

-- one more, or the last value
abbrev pub next_count : ℕ → ℕ
next_count count = min (count + 1) (2 ^ 64 - 1)

-- a count of faults is greater than it was, or stands at its last value
abbrev pub FaultsRose : ℕ → ℕ → Type 0
FaultsRose old new = next_count old ≤ new
