-- Places of definitions by number.
use Rattle.std.specs.Prelude.{◌≡◌, ℕ, List, [], ◌∷◌, length, Some, slice_get}
use Rattle.std.specs.List.{position_or_len}
use Rattle.cat_pos.specs.declared.pos.Pos.{Pos}
use Rattle.cat_guard.specs.declared.guard.GuardDef.{GuardDef}
use Rattle.cat_dead.specs.Winners.{is_same}

-- the number of a position among others
abbrev pub number_of : List Pos → Pos → ℕ
number_of positions p = position_or_len (is_same p) positions

-- each definition has the number of its position
abbrev pub AreNumbered : List Pos → List GuardDef → List ℕ → Type 0
AreNumbered positions [] [] = Unit {0}
AreNumbered positions [] (n ∷ ns) = ⊥
AreNumbered positions (d ∷ ds) [] = ⊥
AreNumbered positions (d ∷ ds) (n ∷ ns) =
    (n ≡ number_of positions d.pos) × (slice_get positions n ≡ Some d.pos) × AreNumbered positions ds ns

-- definitions have the numbers of their positions among so many
pub record HaveNumbers (defs : List GuardDef) (numbers : List ℕ) (count : ℕ) : Type 0 where
  pub positions : List Pos
  pub numbered : AreNumbered positions defs numbers
  pub count_is : length positions ≡ count
