-- What a search for a number finds.
use Rattle.std.specs.Prelude.{◌≡◌, ◌+◌, ℕ, Bool, true, false, if◌then◌else◌, List, [], ◌∷◌, length, slice_index_or}
use Rattle.cat_order.specs.Cycle.{DependsOn}
use Rattle.cat_depend.specs.CycleWays.{LeadsTo}

-- whether a number is marked
abbrev pub is_marked : List Bool → ℕ → Bool
is_marked marks n = slice_index_or marks n false

-- what marked numbers lead to is marked, and the goal isn't: so none of them leads to it
pub record IsSearched (deps : List (List ℕ)) (goal : ℕ) (marks : List Bool) : Type 0 where
  pub counted : length marks ≡ length deps
  pub closed : (n m : ℕ) → is_marked marks n ≡ true → DependsOn deps n m → is_marked marks m ≡ true
  pub apart : is_marked marks goal ≡ false

-- how a search from a number on ends: at the goal, or with all marked that it leads to, beside what was marked before
abbrev pub Finds : List (List ℕ) → ℕ → ℕ → List Bool → List Bool → Bool → Type 0
Finds deps goal from old new true = LeadsTo deps from goal
Finds deps goal from old new false = IsSearched deps goal new × (is_marked new from ≡ true)
    × ((n : ℕ) → is_marked old n ≡ true → is_marked new n ≡ true)

-- how many steps a search may still take: each number that isn't marked, with what it leads to
abbrev pub left_over : List (List ℕ) → List Bool → ℕ
left_over [] marks = 0
left_over (ns ∷ deps) [] = 0
left_over (ns ∷ deps) (mark ∷ marks) = (if mark then 0 else 1 + length ns) + left_over deps marks
