-- The slots of a scope that is not entered yet.
use Rattle.std.specs.Prelude.{ℕ, zero, suc, List, [], ◌∷◌, Option, None}

-- so many empty slots
abbrev pub empties : ℕ → List (Option ℕ)
empties zero = []
empties (suc n) = None ∷ empties n
