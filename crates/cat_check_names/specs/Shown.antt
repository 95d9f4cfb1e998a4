-- What look-ups give.
use Rattle.std.specs.Prelude.{ℕ, Option}
use Rattle.std.specs.Borrow.{Bor}
use Rattle.std.specs.Option.{option_map}

-- what was found, with its number
abbrev pub shown : {A : Type 0} → Option (ℕ × Bor A) → Option (ℕ × A)
shown found = option_map (λ p. (p.0, p.1.now)) found
