-- What is unmet while items are listed.
use Rattle.std.specs.Prelude.{◌≡◌, ◌==◌, ◌+◌, ◌<◌, ◌&&◌, ◌||◌, ℕ, zero, suc, Bool, false, nat_lt, if◌then◌else◌, List}
use Rattle.std.specs.Prelude.{[], ◌∷◌, length, slice_index, slice_index_or}
use Rattle.std.specs.Ordering.{nat_cmp}
use Rattle.std.specs.BTreeSet.{BTreeSet, contains}
use Rattle.cat_order.specs.Order.{dependencies_of, times, is_listed, is_ready, IsInOrder}

-- how many of these dependencies do not stand in `front`
abbrev pub missing : List ℕ → List ℕ → ℕ
missing front [] = 0
missing front (first ∷ rest) = (if is_listed front first then 0 else 1) + missing front rest

-- how many of the first so many items do not stand in `front`
abbrev pub left_out : List ℕ → ℕ → ℕ
left_out front zero = 0
left_out front (suc count) = (if is_listed front count then 0 else 1) + left_out front count

-- the items that depend on an item
abbrev pub dependents_of : List (List ℕ) → ℕ → List ℕ
dependents_of dependents item = slice_index_or dependents item []

-- `dependents` has an item in another's list as often as the other stands among its dependencies
abbrev pub AreDependents : List (List ℕ) → List (List ℕ) → Type 0
AreDependents deps dependents = (item : ℕ) (other : ℕ)
    → item < length deps → times (dependents_of dependents item) other ≡ times (dependencies_of deps other) item

-- the item was put once more into the list of each of these dependencies
abbrev pub AddsDependent : List (List ℕ) → List (List ℕ) → ℕ → List ℕ → Type 0
AddsDependent old new item dependencies = (on : ℕ) (other : ℕ)
    → times (dependents_of new on) other ≡ times (dependents_of old on) other +
    (if item == other then times dependencies on else 0)

-- the set has the items whose count is 0
abbrev pub HasThoseAtZero : List ℕ → BTreeSet ℕ → Type 0
HasThoseAtZero counts ready = (item : ℕ)
    → contains nat_cmp ready item ≡ (nat_lt item (length counts) && (slice_index counts item == 0))

-- each count fell by as much as its item stands in the list
abbrev pub CountsDown : List ℕ → List ℕ → List ℕ → Type 0
CountsDown items old new = (item : ℕ) → slice_index new item + times items item ≡ slice_index old item

-- the set gained the items of the list whose count is 0
abbrev pub AddsThoseAtZero : List ℕ → List ℕ → BTreeSet ℕ → BTreeSet ℕ → Type 0
AddsThoseAtZero items counts old new = (item : ℕ)
    → contains nat_cmp new item ≡ (contains nat_cmp old item
    || (is_listed items item && (slice_index counts item == 0)))

-- whether one of these dependencies has a count above 0, and so waits for others itself
abbrev pub any_waiting : List ℕ → List ℕ → Bool
any_waiting unmet [] = false
any_waiting unmet (first ∷ rest) = nat_lt 0 (slice_index unmet first) || any_waiting unmet rest

-- the list is in order, no further item may come next, and `unmet` counts each item's dependencies that are not listed
pub record HasStopped (deps : List (List ℕ)) (listed unmet : List ℕ) : Type 0 where
  pub in_order : IsInOrder deps listed
  pub none_ready : (item : ℕ) → is_ready deps listed item ≡ false
  pub one_each : length unmet ≡ length deps
  pub counts : (item : ℕ) → item < length deps → slice_index unmet item ≡ missing listed (dependencies_of deps item)
