-- What may be left of each dimension.
use Rattle.std.specs.Prelude.{◌≡◌, ◌<◌, ◌≤◌, ◌⊎◌, ◌^◌, ℤ, pos, neg_ℤ, int_lt, unsigned_abs, false}
use Rattle.cat_num.specs.Whole.{largest}
use Rattle.cat_date.specs.Calendar.{first_day, last_day}
use Rattle.cat_region.specs.declared.dim.Dim.{Dim}
use Rattle.cat_region.specs.declared.dim.Dim.TheVariants as dim
use Rattle.cat_region.specs.declared.extent.Range.{Range}
use Rattle.cat_region.specs.declared.extent.Extent.{Extent}
use Rattle.cat_region.specs.declared.extent.Extent.TheVariants.{Ranks, Cases}
use Rattle.cat_region.specs.Extents.{farthest}

-- a range within two ranks
abbrev pub IsWithin : ℤ → ℤ → Range → Type 0
IsWithin a b r = (int_lt r.low a ≡ false) × (int_lt b r.high ≡ false)

-- an end of a range of decimals: the outermost rank, or next to a bound
abbrev pub IsEnd : ℤ → ℤ → Type 0
IsEnd outer n = (n ≡ outer) ⊎ (unsigned_abs n ≤ 2_000_000_000_000_000_001)

-- a part of a dimension
abbrev pub IsPart : Dim → Extent → Type 0
IsPart dim.Whole (Ranks r) = IsWithin (neg_ℤ (pos largest)) (pos largest) r
IsPart dim.Money (Ranks r) = IsWithin (neg_ℤ (pos largest)) (pos largest) r
IsPart dim.Day (Ranks r) = IsWithin first_day last_day r
IsPart dim.Decimal (Ranks r) = IsEnd (neg_ℤ (pos farthest)) r.low × IsEnd (pos farthest) r.high
IsPart dim.Truth (Ranks r) = IsWithin (pos 0) (pos 1) r
IsPart (dim.Cases n) (Ranks r) = ⊥
IsPart (dim.Cases n) (Cases set) = set < 2 ^ n
IsPart d (Cases set) = ⊥
