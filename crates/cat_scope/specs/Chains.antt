-- Chains of numbers that lead on: from a group to one that excepts it, from a function or a scope to one that it calls.
use Rattle.std.specs.Prelude.{ℕ, zero, suc, ◌&&◌, ◌≤◌, Bool, true, false, List, [], ◌∷◌, length}
use Rattle.std.specs.List.{list_all}
use Rattle.cat_order.specs.Order.{dependencies_of}
use Rattle.cat_order.specs.Cycle.{DependsOn, IsOnCycle}

-- each number of a chain leads to the next one
abbrev pub IsChain : List (List ℕ) → List ℕ → Type 0
IsChain deps [] = Unit {0}
IsChain deps (n ∷ []) = Unit {0}
IsChain deps (n ∷ m ∷ ns) = DependsOn deps n m × IsChain deps (m ∷ ns)

-- how many groups, functions or scopes a chain may have
abbrev pub longest_chain : ℕ
longest_chain = 256

-- no chain is longer
abbrev pub HasShortChains : List (List ℕ) → Type 0
HasShortChains deps = (chain : List ℕ) → IsChain deps chain → length chain ≤ longest_chain

-- no number leads to itself, at once or through others
abbrev pub HasNoCycle : List (List ℕ) → Type 0
HasNoCycle deps = (n : ℕ) → ¬ IsOnCycle deps n

-- whether no chain that begins with a number has more than k numbers
unfoldable pub is_within : List (List ℕ) → ℕ → ℕ → Bool
is_within deps zero n = false
is_within deps (suc k) n = list_all (is_within deps k) (dependencies_of deps n)

-- whether this is so of each number below a bound
abbrev pub are_within : List (List ℕ) → ℕ → ℕ → Bool
are_within deps k zero = true
are_within deps k (suc n) = is_within deps k n && are_within deps k n
