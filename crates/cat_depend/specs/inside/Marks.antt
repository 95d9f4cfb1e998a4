-- Numbers that are marked.
use Rattle.std.specs.Prelude.{◌≡◌, ◌↔◌, ℕ, Bool, true, false, IsTrue, List, [], ◌∷◌, length, slice_set, slice_index_or}
use Rattle.cat_depend.specs.Reached.{IsReached}

-- whether a number is marked
abbrev pub is_marked : List Bool → ℕ → Bool
is_marked marks n = slice_index_or marks n false

-- the marks with those of some numbers
abbrev pub marked : List Bool → List ℕ → List Bool
marked marks [] = marks
marked marks (n ∷ ns) = marked (slice_set marks n true) ns

-- just what is reached from a number is marked, with a mark for each number or none
pub record MarkReached (deps : List (List ℕ)) (from : ℕ) (marks : List Bool) : Type 0 where
  pub counted : length marks ≡ length deps
  pub decides : (n : ℕ) → IsTrue (is_marked marks n) ↔ IsReached deps from n
