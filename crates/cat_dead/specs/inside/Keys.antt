-- Positions as numbers, and sets of these.
use Rattle.std.specs.Prelude.{◌≡◌, ◌<◌, ◌^◌, ℕ, ◌+◌, ◌*◌, Bool, ◌||◌, List}
use Rattle.std.specs.List.{list_any}
use Rattle.std.specs.Ordering.{nat_cmp}
use Rattle.std.specs.BTreeSet.{BTreeSet, contains}
use Rattle.cat_pos.specs.declared.pos.Pos.{Pos}
use Rattle.cat_dead.specs.Winners.{is_same}

-- one number for each position
abbrev pub key_of : Pos → ℕ
key_of p = p.line * 4294967296 + p.place

-- the position of that number is in a set
abbrev pub has_key : BTreeSet ℕ → Pos → Bool
has_key set p = contains nat_cmp set (key_of p)

-- a set has the number of one position more
abbrev pub IsAddedTo : Pos → BTreeSet ℕ → BTreeSet ℕ → Type 0
IsAddedTo q old new = (p : Pos) → p.place < 2 ^ 32 → has_key new p ≡ (has_key old p || is_same p q)

-- a set has the numbers of these positions, and no others
abbrev pub HasKeys : BTreeSet ℕ → List Pos → Type 0
HasKeys set positions = (p : Pos) → p.place < 2 ^ 32 → has_key set p ≡ list_any (is_same p) positions
