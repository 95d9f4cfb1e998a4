-- How long chains are that begin with a number.
use Rattle.std.specs.Prelude.{◌<◌, ℕ, max, IsTrue, List, [], ◌∷◌, length, take, slice_index, slice_index_or, All}
use Rattle.cat_order.specs.Order.{is_listed}
use Rattle.cat_order.specs.Cycle.{DependsOn}

-- an order lists each number, and behind those that it leads to
pub record IsTopological (deps : List (List ℕ)) (order : List ℕ) : Type 0 where
  pub each : (n : ℕ) → n < length deps → IsTrue (is_listed order n)
  pub numbers : All (λ n. n < length deps) order
  pub behind : (place : ℕ) (other : ℕ) → place < length order → DependsOn deps (slice_index order place) other
      → IsTrue (is_listed (take place order) other)

-- the longest of the chains from some numbers on
abbrev pub longest_of : List ℕ → List ℕ → ℕ
longest_of lengths [] = 0
longest_of lengths (n ∷ ns) = max (slice_index_or lengths n 0) (longest_of lengths ns)
