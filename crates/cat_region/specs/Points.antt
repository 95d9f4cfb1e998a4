-- Values of dimensions, and what cuts answer of them.
use Rattle.std.specs.Prelude.{pos, ◌*◌, ◌%◌, ◌==◌, nat_le, nat_lt, unsigned_abs, Bool, true, false, ◌&&◌}
use Rattle.std.specs.declared.cmp.Ordering.{Ordering}
use Rattle.std.specs.declared.cmp.Ordering.TheVariants.{Greater}
use Rattle.std.specs.Ordering.{int_cmp, is_lt, is_le}
use Rattle.cat_num.specs.Whole.{fits}
use Rattle.cat_num.specs.Frac.{Fraction, is_reduced, frac_order}
use Rattle.cat_date.specs.Calendar.{first_day, is_day}
use Rattle.cat_region.specs.declared.dim.Dim.{Dim}
use Rattle.cat_region.specs.declared.dim.Dim.TheVariants as dim
use Rattle.cat_region.specs.declared.cut.Threshold.{Threshold}
use Rattle.cat_region.specs.declared.cut.Threshold.TheVariants as threshold
use Rattle.cat_region.specs.declared.cut.Cut.{Cut}
use Rattle.cat_region.specs.declared.cut.Cut.TheVariants as cut
use Rattle.cat_region.specs.declared.point.Point.{Point}
use Rattle.cat_region.specs.declared.point.Point.TheVariants as point

-- whether a value is one of a dimension: of its kind, and in its range
abbrev pub is_point : Dim → Point → Bool
is_point dim.Whole (point.Whole n) = fits n
is_point dim.Money (point.Money n) = fits n
is_point dim.Day (point.Day n) = is_day n
is_point dim.Decimal (point.Decimal f) = is_reduced f
is_point dim.Truth (point.Truth b) = true
is_point (dim.Cases n) (point.Case k) = nat_lt k n
is_point d x = false

-- the default of a dimension: 0, no cents, 0001-01-01, false, the first case
abbrev pub default_point : Dim → Point
default_point dim.Whole = point.Whole (pos 0)
default_point dim.Money = point.Money (pos 0)
default_point dim.Day = point.Day first_day
default_point dim.Decimal = point.Decimal (record { num = pos 0; den = 1 })
default_point dim.Truth = point.Truth false
default_point (dim.Cases n) = point.Case 0

-- how a value stands to a threshold of its kind
abbrev pub point_order : Point → Threshold → Ordering
point_order (point.Whole n) (threshold.Whole c) = int_cmp n c
point_order (point.Money n) (threshold.Money c) = int_cmp n c
point_order (point.Day n) (threshold.Day c) = int_cmp n c
point_order (point.Decimal f) (threshold.Decimal c) = frac_order f c
point_order x c = Greater

-- what a cut answers for a value of its kind
abbrev pub answer : Cut → Point → Bool
answer (cut.Below c) x = is_lt (point_order x c)
answer (cut.AtMost c) x = is_le (point_order x c)
answer cut.IsTrue (point.Truth b) = b
answer (cut.IsCase k) (point.Case n) = n == k
answer c x = false

-- whether decimals may be compared with a fraction: its denominator divides 10^9, and it lies between -10^9 and 10^9
abbrev pub is_bound : Fraction → Bool
is_bound f =
    is_reduced f && 1_000_000_000 % f.den == 0 && nat_le (unsigned_abs f.num) (1_000_000_000 * f.den)

-- whether values of a dimension may be compared with a threshold
abbrev pub is_threshold : Dim → Threshold → Bool
is_threshold dim.Whole (threshold.Whole c) = true
is_threshold dim.Money (threshold.Money c) = true
is_threshold dim.Day (threshold.Day c) = true
is_threshold dim.Decimal (threshold.Decimal c) = is_bound c
is_threshold d c = false

-- whether a cut is of a dimension's kind
abbrev pub is_cut : Dim → Cut → Bool
is_cut d (cut.Below c) = is_threshold d c
is_cut d (cut.AtMost c) = is_threshold d c
is_cut dim.Truth cut.IsTrue = true
is_cut (dim.Cases n) (cut.IsCase k) = true
is_cut d c = false
