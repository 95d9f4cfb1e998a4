-- Which of what is left of a dimension is its point.
use Rattle.std.specs.Prelude.{ℕ, ◌%◌, ◌==◌, ℤ, pos, neg_ℤ, ◌+ℤ◌, ◌-ℤ◌, int_lt, int_le, unsigned_abs, Bool, false}
use Rattle.std.specs.Prelude.{◌&&◌, if◌then◌else◌, Option, Some, None, slice_get}
use Rattle.std.specs.Int.{int_min, int_max, trailing_zeros}
use mir.Syntax.{w128}
use Rattle.cat_num.specs.Frac.{Fraction, lowest}
use Rattle.cat_region.specs.declared.dim.Dim.{Dim}
use Rattle.cat_region.specs.declared.dim.Dim.TheVariants as dim
use Rattle.cat_region.specs.declared.point.Point.{Point}
use Rattle.cat_region.specs.declared.point.Point.TheVariants as point
use Rattle.cat_region.specs.declared.extent.Range.{Range}
use Rattle.cat_region.specs.declared.extent.Extent.{Extent}
use Rattle.cat_region.specs.declared.extent.Extent.TheVariants.{Ranks, Cases}
use Rattle.cat_region.specs.Regions.{Constraints}
use Rattle.cat_region.specs.Extents.{farthest, start, after}

-- the number of a range nearest to 0
abbrev pub nearest : Range → ℤ
nearest r = int_max r.low (int_min r.high (pos 0))

-- whether a rank is that of a whole number of units
abbrev pub is_even : ℤ → Bool
is_even n = unsigned_abs n % 2 == 0

-- a decimal of a range neither of whose ends is a bound that is admitted, as numerator and denominator: the middle of
-- the two bounds; where it has only one, the value one step of 1 inside of it
abbrev pub inner_parts : Range → ℤ × ℕ
inner_parts r =
    if int_lt r.high (pos farthest)
    then (if int_lt (neg_ℤ (pos farthest)) r.low then (r.low +ℤ r.high, 4_000_000_000)
    else (r.high -ℤ pos 1_999_999_999, 2_000_000_000))
    else (r.low +ℤ pos 1_999_999_999, 2_000_000_000)

-- the lower bound, where it is admitted, else the upper one, else a decimal inside
abbrev pub outer_parts : Range → ℤ × ℕ
outer_parts r =
    if is_even r.low then (r.low, 2_000_000_000)
    else (if is_even r.high then (r.high, 2_000_000_000) else inner_parts r)

-- 0, where it is admitted
abbrev pub decimal_parts : Range → ℤ × ℕ
decimal_parts r = if int_le r.low (pos 0) && int_le (pos 0) r.high then (pos 0, 1) else outer_parts r

-- the same as a fraction
abbrev pub decimal_in : Range → Fraction
decimal_in r = lowest (decimal_parts r).0 (decimal_parts r).1

-- one of the values of a dimension whose ranks are in a range
abbrev pub ranked_point : Dim → Range → Point
ranked_point dim.Whole r = point.Whole (nearest r)
ranked_point dim.Money r = point.Money (nearest r)
ranked_point dim.Day r = point.Day r.low
ranked_point dim.Decimal r = point.Decimal (decimal_in r)
ranked_point d r = point.Truth (int_lt (pos 0) r.low)

-- one of what is left of a dimension
abbrev pub point_in : Dim → Extent → Point
point_in d (Ranks r) = ranked_point d r
point_in d (Cases set) = point.Case (trailing_zeros w128 set)

-- the point of dimension i
abbrev pub point_of : ℕ → Option Dim → Constraints → Point
point_of i None region = point.Truth false
point_of i (Some d) region = point_in d (after i (start d) region.narrowings)

-- the point that is chosen in the dimension of that number
unfoldable pub point_at : Constraints → ℕ → Point
point_at region i = point_of i (slice_get region.dims i) region
