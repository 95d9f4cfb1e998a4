-- Items that depend on themselves, through others or at once.
use Rattle.std.specs.Prelude.{ℕ, IsTrue, List, [], ◌∷◌}
use Rattle.cat_order.specs.Order.{dependencies_of, is_listed}

-- the item depends on another at once
abbrev pub DependsOn : List (List ℕ) → ℕ → ℕ → Type 0
DependsOn deps item other = IsTrue (is_listed (dependencies_of deps item) other)

-- `from` depends on the first item of the path, each item of the path on the next one, and the last on `to`
abbrev pub IsPath : List (List ℕ) → ℕ → List ℕ → ℕ → Type 0
IsPath deps from [] to = DependsOn deps from to
IsPath deps from (via ∷ path) to = DependsOn deps from via × IsPath deps via path to

-- the item is reached from itself by one dependency or more
unfoldable pub IsOnCycle : List (List ℕ) → ℕ → Type 0
IsOnCycle deps item = (path : List ℕ) × IsPath deps item path item
