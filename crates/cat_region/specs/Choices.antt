-- Which of the admitted values of a dimension is its point.
use Rattle.std.specs.Prelude.{◌≡◌, ◌≤◌, ℕ, ◌*◌, ◌==◌, ℤ, pos, negsuc, ◌+ℤ◌, ◌-ℤ◌, ◌*ℤ◌, unsigned_abs, Bool, true, false}
use Rattle.std.specs.Prelude.{IsTrue, if◌then◌else◌, Option, Some, None, List, [], ◌∷◌, slice_get}
use Rattle.std.specs.Ordering.{is_lt}
use Rattle.std.proofs.Math.Bool.{beq}
use Rattle.cat_num.specs.Frac.{Fraction, lowest, frac_order}
use Rattle.cat_date.specs.Calendar.{first_day}
use Rattle.cat_region.specs.declared.dim.Dim.{Dim}
use Rattle.cat_region.specs.declared.cut.Threshold.TheVariants as threshold
use Rattle.cat_region.specs.declared.cut.Cut.{Cut}
use Rattle.cat_region.specs.declared.cut.Cut.TheVariants as cut
use Rattle.cat_region.specs.declared.point.Point.{Point}
use Rattle.cat_region.specs.declared.point.Point.TheVariants as point
use Rattle.cat_region.specs.declared.narrowing.Narrowing.{Narrowing}
use Rattle.cat_region.specs.Points.{default_point}
use Rattle.cat_region.specs.Regions.{Constraints, is_admitted}

-- how far a value lies from the default of its kind. Decimals have a rule of their own
abbrev pub distance : Point → ℕ
distance (point.Whole n) = unsigned_abs n
distance (point.Money n) = unsigned_abs n
distance (point.Day n) = unsigned_abs (n -ℤ first_day)
distance (point.Decimal f) = 0
distance (point.Truth false) = 0
distance (point.Truth true) = 1
distance (point.Case k) = k

-- the decimal that a cut compares with, where it does
abbrev pub decimal_of : Cut → Option Fraction
decimal_of (cut.Below (threshold.Decimal c)) = Some c
decimal_of (cut.AtMost (threshold.Decimal c)) = Some c
decimal_of c = None

-- the decimal that a narrowing of dimension i has as a bound of that side: values lie under it, or over it
abbrev pub bound_of : Bool → ℕ → Narrowing → Option Fraction
bound_of under i n = if n.dim == i then (if beq n.yes under then decimal_of n.cut else None) else None

-- of two bounds of one side the closer one
abbrev pub closer : Bool → Option Fraction → Option Fraction → Option Fraction
closer under None b = b
closer under (Some a) None = Some a
closer true (Some a) (Some b) = if is_lt (frac_order b a) then Some b else Some a
closer false (Some a) (Some b) = if is_lt (frac_order a b) then Some b else Some a

-- the closest of a bound of dimension i and those of some narrowings
abbrev pub closest : Bool → ℕ → Option Fraction → List Narrowing → Option Fraction
closest under i bound [] = bound
closest under i bound (n ∷ ns) = closest under i (closer under bound (bound_of under i n)) ns

-- the least upper, and the greatest lower bound of dimension i
abbrev pub upper_bound : Constraints → ℕ → Option Fraction
upper_bound region i = closest true i None region.narrowings

-- the greatest bound from below of a dimension
abbrev pub lower_bound : Constraints → ℕ → Option Fraction
lower_bound region i = closest false i None region.narrowings

-- a fraction plus a whole number
abbrev pub plus : Fraction → ℤ → Fraction
plus f n = lowest (f.num +ℤ n *ℤ pos f.den) f.den

-- the middle between two fractions
abbrev pub middle : Fraction → Fraction → Fraction
middle f g = lowest (f.num *ℤ pos g.den +ℤ g.num *ℤ pos f.den) (2 * f.den * g.den)

-- 0 as a fraction
abbrev pub zero_decimal : Fraction
zero_decimal = record { num = pos 0; den = 1 }

-- between its bounds: the lower one, else the upper one, where these are admitted, else the middle; where only one is
-- there and isn't admitted, the value one step of 1 inside of it
abbrev pub between : (Fraction → Bool) → Option Fraction → Option Fraction → Fraction
between admitted None None = zero_decimal
between admitted (Some l) None = if admitted l then l else plus l (pos 1)
between admitted None (Some u) = if admitted u then u else plus u (negsuc 0)
between admitted (Some l) (Some u) = if admitted l then l else (if admitted u then u else middle l u)

-- 0 where it is admitted, else a decimal by the bounds
abbrev pub decimal_at : Constraints → ℕ → Fraction
decimal_at region i =
    if is_admitted region i (point.Decimal zero_decimal) then zero_decimal
    else between (λ f. is_admitted region i (point.Decimal f)) (lower_bound region i) (upper_bound region i)

-- no admitted value of dimension i lies nearer to the default; of a decimal, that it is the one of the rule above
abbrev pub IsChoice : Constraints → ℕ → Point → Type 0
IsChoice region i (point.Decimal f) = f ≡ decimal_at region i
IsChoice region i x = (y : Point) → IsTrue (is_admitted region i y) → distance x ≤ distance y

-- x is the point of dimension i: it is admitted, and is the default where that is
pub record IsPointOf (region : Constraints) (i : ℕ) (x : Point) : Type 0 where
  pub admitted : IsTrue (is_admitted region i x)
  pub default : (d : Dim) → slice_get region.dims i ≡ Some d → IsTrue (is_admitted region i (default_point d))
      → x ≡ default_point d
  pub chosen : IsChoice region i x
