-- Ways round a cycle.
use Rattle.std.specs.Prelude.{◌≡◌, ◌⊎◌, ℕ, List}
use Rattle.cat_order.specs.Cycle.{DependsOn, IsPath}

-- one leads to another by any number of dependencies
abbrev pub LeadsTo : List (List ℕ) → ℕ → ℕ → Type 0
LeadsTo deps from to = (from ≡ to) ⊎ ((path : List ℕ) × IsPath deps from path to)

-- on the way round a cycle a number stands behind another one, which depends on it: it leads back
abbrev pub IsNextOnCycle : List (List ℕ) → ℕ → ℕ → Type 0
IsNextOnCycle deps number next = DependsOn deps number next × LeadsTo deps next number
