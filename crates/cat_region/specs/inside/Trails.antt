-- What a region keeps beside its narrowings: what is left of each dimension, and what was left before each narrowing.
use Rattle.std.specs.Prelude.{◌≡◌, ℕ, ◌≤◌, ◌-◌, take, Bool, List, [], ◌∷◌, ◌++◌, length, slice_get, Option, None, Some}
use Rattle.std.specs.Prelude.{true, false, if◌then◌else◌}
use Rattle.std.specs.List.{list_any}
use Rattle.cat_region.specs.Extents.{is_none, narrowed}
use Rattle.cat_region.specs.declared.dim.Dim.{Dim}
use Rattle.cat_region.specs.declared.cut.Cut.{Cut}
use Rattle.cat_region.specs.declared.extent.Extent.{Extent}
use Rattle.cat_region.specs.declared.narrowing.Narrowing.{Narrowing}
use Rattle.cat_region.specs.declared.region.NarrowingStep.{NarrowingStep}
use Rattle.cat_region.specs.Regions.{Constraints, IsRegion}
use Rattle.cat_region.specs.Decided.{lefts}

-- the narrowings of some steps
abbrev pub narrowings_of : List NarrowingStep → List Narrowing
narrowings_of [] = []
narrowings_of (s ∷ ss) = s.narrowing ∷ narrowings_of ss

-- what contracts see of a region's dimensions and of the first steps of its trail, which are those made
abbrev pub seen : List Dim → List NarrowingStep → ℕ → Constraints
seen dims trail made =
    record { dims = dims; narrowings = narrowings_of (take made trail); room = length trail - made }

-- a step keeps what was left of its dimension after the narrowings made before, and whether nothing was admitted
pub record IsKept (dims : List Dim) (made : List Narrowing) (s : NarrowingStep) : Type 0 where
  pub left : slice_get (lefts 0 dims made) s.narrowing.dim ≡ Some s.left
  pub empty : s.empty ≡ list_any is_none (lefts 0 dims made)

-- each step does so, after those before it
abbrev pub AreKept : List Dim → List Narrowing → List NarrowingStep → Type 0
AreKept dims made [] = Unit {0}
AreKept dims made (s ∷ ss) = IsKept dims made s × AreKept dims (made ++ s.narrowing ∷ []) ss

-- the first steps of a trail are those made; each dimension has left what their narrowings leave
pub record IsTrail (dims : List Dim) (left : List Extent) (empty : Bool) (trail : List NarrowingStep)
    (made : ℕ) : Type 0 where
  pub fits : made ≤ length trail
  pub sound : IsRegion (seen dims trail made)
  pub leaves : left ≡ lefts 0 dims (narrowings_of (take made trail))
  pub none : empty ≡ list_any is_none left
  pub kept : AreKept dims [] (take made trail)

-- what is decided of a cut by what is left of its dimension, where something is admitted
abbrev pub decided_by : Bool → Extent → Cut → Option Bool
decided_by true e c = None
decided_by false e c =
    if is_none (narrowed e c false) then Some true else (if is_none (narrowed e c true) then Some false else None)
