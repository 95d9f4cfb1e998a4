-- What a region admits nothing of, and what it decides, as functions of its narrowings.
use Rattle.std.specs.Prelude.{ℕ, suc, Bool, true, false, if◌then◌else◌, Option, Some, None, List, [], ◌∷◌}
use Rattle.std.specs.List.{list_any}
use Rattle.cat_region.specs.declared.dim.Dim.{Dim}
use Rattle.cat_region.specs.declared.cut.Cut.{Cut}
use Rattle.cat_region.specs.declared.narrowing.Narrowing.{Narrowing}
use Rattle.cat_region.specs.declared.extent.Extent.{Extent}
use Rattle.cat_region.specs.Regions.{Constraints, with_narrowing, narrowed_to}
use Rattle.cat_region.specs.Extents.{start, after, is_none}

-- what is left of each of some dimensions, of which the first is dimension i
abbrev pub lefts : ℕ → List Dim → List Narrowing → List Extent
lefts i [] ns = []
lefts i (d ∷ ds) ns = after i (start d) ns ∷ lefts (suc i) ds ns

-- whether a region admits nothing
unfoldable pub admits_none : Constraints → Bool
admits_none region = list_any is_none (lefts 0 region.dims region.narrowings)

-- whether a region would admit nothing where a cut of dimension i answers so
abbrev pub excludes : Constraints → ℕ → Cut → Bool → Bool
excludes region i c so = admits_none (with_narrowing region (narrowed_to i c so))

-- what is decided of a cut of dimension i: nothing where the region admits nothing, else the answer whose opposite the
-- region excludes
unfoldable pub decided_at : Constraints → ℕ → Cut → Option Bool
decided_at region i c =
    if admits_none region then None else (if excludes region i c false then Some true
    else (if excludes region i c true then Some false else None))
