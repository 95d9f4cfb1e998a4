-- The last narrowing of a path, undone.
use Rattle.std.specs.Prelude.{◌≡◌, ℕ, Bool, List, [], ◌∷◌, Option, None, Some}
use Rattle.cat_region.specs.declared.cut.Cut.{Cut}
use Rattle.cat_region.specs.declared.narrowing.Narrowing.{Narrowing}
use Rattle.cat_region.specs.Regions.{Constraints}
use Rattle.cat_region.specs.Sides.{IsAt}

-- the last narrowing of a path is undone, and told, if there is one
abbrev pub Undoes : Constraints → List Narrowing → Option (ℕ × Cut × Bool) → Constraints → Type 0
Undoes base [] None region = IsAt base [] region
Undoes base [] (Some last) region = ⊥
Undoes base (n ∷ path) None region = ⊥
Undoes base (n ∷ path) (Some last) region = (last ≡ (n.dim, n.cut, n.yes)) × IsAt base path region
