-- The way from a region down to a leaf, and back up.
use Rattle.std.specs.Prelude.{◌≡◌, ℕ, ◌+◌, Bool, true, false, if◌then◌else◌, List, [], ◌∷◌, length}
use Rattle.cat_region.specs.declared.narrowing.Narrowing.{Narrowing}
use Rattle.cat_region.specs.Regions.{Constraints, with_narrowing}

-- a region with the narrowings of a path, of which the last one stands first
abbrev pub along : Constraints → List Narrowing → Constraints
along base [] = base
along base (n ∷ path) = with_narrowing (along base path) n

-- a region is at the end of a path, with the room that is left
pub record IsAt (base : Constraints) (path : List Narrowing) (region : Constraints) : Type 0 where
  pub dims : region.dims ≡ base.dims
  pub narrowings : region.narrowings ≡ (along base path).narrowings
  pub room : region.room + length path ≡ base.room

-- the other side of a narrowing
abbrev pub false_side : Narrowing → Narrowing
false_side n = record { dim = n.dim; cut = n.cut; yes = false }

-- the paths to the false sides that are still to come, where a path is on the true sides: the last one first
abbrev pub turns : List Narrowing → List (List Narrowing)
turns [] = []
turns (n ∷ path) = if n.yes then (false_side n ∷ path) ∷ turns path else turns path

-- a region comes from a path to the first of its turns, if there is one, and else back to where all paths begin
abbrev pub Turns : Constraints → List Narrowing → Bool → Constraints → Type 0
Turns base path false region = (turns path ≡ []) × IsAt base [] region
Turns base path true region = (next : List Narrowing) × (turns path ≡ next ∷ turns next) × IsAt base next region

-- the narrowings that are on true sides
abbrev pub true_sides : List Narrowing → ℕ
true_sides [] = 0
true_sides (n ∷ ns) = (if n.yes then 1 else 0) + true_sides ns
