-- What narrowings leave of one dimension: a range of ranks, or a set of cases.
use Rattle.std.specs.Prelude.{ℕ, ◌+◌, ◌-◌, ◌*◌, ◌/◌, ◌%◌, ◌^◌, ◌==◌, ℤ, pos, neg_ℤ, ◌+ℤ◌, ◌-ℤ◌, ◌*ℤ◌, int_lt}
use Rattle.std.specs.Prelude.{unsigned_abs, nat_lt, Bool, true, false, not, if◌then◌else◌, List, [], ◌∷◌}
use Rattle.std.specs.Int.{bit_not, int_min, int_max}
use Rattle.std.specs.Int.Bits.{bit_and}
use mir.Syntax.{w128}
use Rattle.cat_num.specs.Whole.{largest}
use Rattle.cat_num.specs.Frac.{is_negative, signed}
use Rattle.cat_date.specs.Calendar.{first_day, last_day}
use Rattle.cat_region.specs.declared.dim.Dim.{Dim}
use Rattle.cat_region.specs.declared.dim.Dim.TheVariants as dim
use Rattle.cat_region.specs.declared.cut.Threshold.{Threshold}
use Rattle.cat_region.specs.declared.cut.Threshold.TheVariants as threshold
use Rattle.cat_region.specs.declared.cut.Cut.{Cut}
use Rattle.cat_region.specs.declared.cut.Cut.TheVariants as cut
use Rattle.cat_region.specs.declared.point.Point.{Point}
use Rattle.cat_region.specs.declared.point.Point.TheVariants as point
use Rattle.cat_region.specs.declared.narrowing.Narrowing.{Narrowing}
use Rattle.cat_region.specs.declared.extent.Range.{Range}
use Rattle.cat_region.specs.declared.extent.Extent.{Extent}
use Rattle.cat_region.specs.declared.extent.Extent.TheVariants.{Ranks, Cases}

-- twice the whole units of 10^-9 in n / d, and one more where n / d isn't a whole number of them
abbrev pub size_rank : ℕ → ℕ → ℕ
size_rank n d = 2 * (n * 1_000_000_000 / d) + (if n * 1_000_000_000 % d == 0 then 0 else 1)

-- where a value stands: whole numbers, cents and days by number, false before true, and a decimal by twice its number
-- of units of 10^-9, or by the odd number between where it has no whole number of them
unfoldable pub rank : Point → ℤ
rank (point.Whole n) = n
rank (point.Money n) = n
rank (point.Day n) = n
rank (point.Decimal f) = signed (is_negative f.num) (size_rank (unsigned_abs f.num) f.den)
rank (point.Truth false) = pos 0
rank (point.Truth true) = pos 1
rank (point.Case k) = pos k

-- the rank of a value that is equal to a threshold
abbrev pub place : Threshold → ℤ
place (threshold.Whole c) = c
place (threshold.Money c) = c
place (threshold.Day c) = c
place (threshold.Decimal c) = c.num *ℤ pos (2_000_000_000 / c.den)

-- below which rank a cut parts values
abbrev pub limit : Cut → ℤ
limit (cut.Below c) = place c
limit (cut.AtMost c) = place c +ℤ pos 1
limit cut.IsTrue = pos 1
limit (cut.IsCase k) = pos 0

-- whether the values with that answer are those below
abbrev pub is_under : Cut → Bool → Bool
is_under cut.IsTrue so = not so
is_under c so = so

-- the part of a range below a rank, or from it on
abbrev pub narrowed_range : Range → ℤ → Bool → Range
narrowed_range r n true = record { low = r.low; high = int_min r.high (n -ℤ pos 1) }
narrowed_range r n false = record { low = int_max r.low n; high = r.high }

-- the set of case k alone, of none past the 128th
abbrev pub one_case : ℕ → ℕ
one_case k = if nat_lt k 128 then 2 ^ k else 0

-- the part of a set where a cut answers so
abbrev pub narrowed_set : ℕ → Cut → Bool → ℕ
narrowed_set set (cut.IsCase k) true = bit_and set (one_case k)
narrowed_set set (cut.IsCase k) false = bit_and set (bit_not w128 (one_case k))
narrowed_set set c so = set

-- what is left where a cut answers so
abbrev pub narrowed : Extent → Cut → Bool → Extent
narrowed (Ranks r) c so = Ranks (narrowed_range r (limit c) (is_under c so))
narrowed (Cases set) c so = Cases (narrowed_set set c so)

-- past which rank no decimal lies: twice the largest in units of 10^-9, and one more
abbrev pub farthest : ℕ
farthest = 18_446_744_073_709_551_614_000_000_001

-- all of a dimension
unfoldable pub start : Dim → Extent
start dim.Whole = Ranks (record { low = neg_ℤ (pos largest); high = pos largest })
start dim.Money = Ranks (record { low = neg_ℤ (pos largest); high = pos largest })
start dim.Day = Ranks (record { low = first_day; high = last_day })
start dim.Decimal = Ranks (record { low = neg_ℤ (pos farthest); high = pos farthest })
start dim.Truth = Ranks (record { low = pos 0; high = pos 1 })
start (dim.Cases n) = Cases (2 ^ n - 1)

-- nothing is left
abbrev pub is_none : Extent → Bool
is_none (Ranks r) = int_lt r.high r.low
is_none (Cases set) = set == 0

-- what is left of dimension i after a narrowing, and after several
abbrev pub after_one : ℕ → Extent → Narrowing → Extent
after_one i e n = if n.dim == i then narrowed e n.cut n.yes else e

-- an extent after all narrowings of its dimension
unfoldable pub after : ℕ → Extent → List Narrowing → Extent
after i e [] = e
after i e (n ∷ ns) = after i (after_one i e n) ns
