-- The one order of items: at each index the first item not yet listed all of whose dependencies stand before it.
use Rattle.std.specs.Prelude.{◌≡◌, ◌==◌, ◌+◌, ◌<◌, ◌&&◌, ℕ, Bool, false, not, nat_lt, if◌then◌else◌, IsTrue, List, []}
use Rattle.std.specs.Prelude.{◌∷◌, length, take, slice_index, slice_index_or, All}
use Rattle.std.specs.List.{list_all}

-- what an item depends on; `deps` has a list for each item, in order of declaration, and items are numbered from 0
abbrev pub dependencies_of : List (List ℕ) → ℕ → List ℕ
dependencies_of deps item = slice_index_or deps item []

-- how many times an item stands in a list
abbrev pub times : List ℕ → ℕ → ℕ
times [] item = 0
times (first ∷ rest) item = (if first == item then 1 else 0) + times rest item

-- whether an item stands in a list
abbrev pub is_listed : List ℕ → ℕ → Bool
is_listed listed item = nat_lt 0 (times listed item)

-- whether a number may come next after `front`: it is an item, it is not yet listed, and all of its dependencies are
unfoldable pub is_ready : List (List ℕ) → List ℕ → ℕ → Bool
is_ready deps front item =
    nat_lt item (length deps) && not (is_listed front item) && list_all (is_listed front) (dependencies_of deps item)

-- the item is the first that may come next after `front`
pub record IsNext (deps : List (List ℕ)) (front : List ℕ) (item : ℕ) : Type 0 where
  pub ready : IsTrue (is_ready deps front item)
  pub first : (other : ℕ) → other < item → is_ready deps front other ≡ false

-- at each index stands the first item that may come next after those in front of it
abbrev pub IsInOrder : List (List ℕ) → List ℕ → Type 0
IsInOrder deps listed = (place : ℕ) → place < length listed → IsNext deps (take place listed) (slice_index listed place)

-- the list is the order: it holds each item exactly once, and each at its index
pub record IsOrder (deps : List (List ℕ)) (listed : List ℕ) : Type 0 where
  pub once : (item : ℕ) → item < length deps → times listed item ≡ 1
  pub in_order : IsInOrder deps listed

-- each dependency is one of the items
abbrev pub AreItems : List (List ℕ) → Type 0
AreItems deps = All (λ dependencies. All (λ item. item < length deps) dependencies) deps
