-- Levels that a way back leaves behind.
use Rattle.std.specs.Prelude.{ℕ, nat_le, Bool, false, List, [], ◌∷◌}
use Rattle.cat_guard.specs.declared.levels.Level.{Level}

-- the last level is of a region with at most that room
abbrev pub is_past : ℕ → List Level → Bool
is_past room [] = false
is_past room (l ∷ ls) = nat_le l.room room
