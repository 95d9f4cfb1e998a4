-- No value of what is left lies nearer to the default than the point.
use Rattle.std.proofs.Common.{◌≡◌, ℕ, ◌^◌, ◌<◌, ◌≤◌, ◌==◌, ℤ, pos, negsuc, neg_ℤ}
use Rattle.std.proofs.Common.{Bool, true, false, not, IsTrue, refl, sym, ap, ◌∙◌, arith}
use Rattle.std.proofs.Common.{unsigned_abs, true≢false}
use Rattle.std.specs.Prelude.{int_lt, ◌-ℤ◌, ◌&&◌, nat_le, nat_lt}
use Rattle.std.specs.Int.{bit_at, int_min, int_max, trailing_zeros}
use mir.Syntax.{w128}
use Rattle.std.proofs.lemmas.Int.{ints}
use Rattle.std.proofs.lemmas.Nat.Bits.{bit_at-trailing_zeros}
use Rattle.std.proofs.Math.Pow.{pow_mono}
use Rattle.cat_date.specs.Calendar.{first_day}
use Rattle.cat_region.specs.declared.dim.Dim.{Dim}
use Rattle.cat_region.specs.declared.dim.Dim.TheVariants as dim
use Rattle.cat_region.specs.declared.point.Point.{Point}
use Rattle.cat_region.specs.declared.point.Point.TheVariants as point
use Rattle.cat_region.specs.declared.extent.Range.{Range}
use Rattle.cat_region.specs.declared.extent.Extent.{Extent}
use Rattle.cat_region.specs.declared.extent.Extent.TheVariants.{Ranks, Cases}
use Rattle.cat_region.specs.Points.{is_point}
use Rattle.cat_region.specs.Regions.{is_dim}
use Rattle.cat_region.specs.Extents.{rank, is_none}
use Rattle.cat_region.specs.Chosen.{point_in}
use Rattle.cat_region.specs.Choices.{distance}
use Rattle.cat_region.proofs.Tests.{le_of, lt_of, not_lt_of, positive_of, and-parts}
use Rattle.cat_region.proofs.ExtentLemmas.{has, lies, is_in}
use Rattle.cat_region.specs.inside.Parts.{IsPart}
use Rattle.cat_region.proofs.PartLemmas.{not-below, not-above}
use Rattle.cat_region.proofs.PointLemmas.{sized}

-- the number of a range nearest to 0 is no farther from it than any in the range
nearest-least : (l h n : ℤ) → (not (int_lt n l) && not (int_lt h n)) ≡ true
    → unsigned_abs (int_max l (int_min h (pos 0))) ≤ unsigned_abs n
nearest-least l h n in_range =
    sized (int_max l (int_min h (pos 0))) (unsigned_abs n)
    (low l h n (unsigned_abs n) in_range (not-below n (unsigned_abs n) (omega arith)))
    (high l h n (unsigned_abs n) in_range (not-above n (unsigned_abs n) (omega arith)))
  where
    low : (l h n : ℤ) (m : ℕ) → (not (int_lt n l) && not (int_lt h n)) ≡ true → int_lt n (neg_ℤ (pos m)) ≡ false
        → int_lt (int_max l (int_min h (pos 0))) (neg_ℤ (pos m)) ≡ false
    low l h n m e f = grind (arith, ints)

    high : (l h n : ℤ) (m : ℕ) → (not (int_lt n l) && not (int_lt h n)) ≡ true → int_lt (pos m) n ≡ false
        → int_lt (pos m) (int_max l (int_min h (pos 0))) ≡ false
    high l h n m e f = grind (arith, ints)

-- no day of a range is nearer to the first than its lower end
day-least : (l h n : ℤ) → int_lt l first_day ≡ false → (not (int_lt n l) && not (int_lt h n)) ≡ true
    → unsigned_abs (l -ℤ first_day) ≤ unsigned_abs (n -ℤ first_day)
day-least l h n first in_range = abs-mono (l -ℤ first_day) (n -ℤ first_day) (shifted l first) (later l h n in_range)
  where
    abs-mono : (a b : ℤ) → int_lt a (pos 0) ≡ false → int_lt b a ≡ false → unsigned_abs a ≤ unsigned_abs b
    abs-mono (pos a) (pos b) h k = grind (arith, ints)
    abs-mono (pos a) (negsuc b) h k = absurd (grind (arith, ints))
    abs-mono (negsuc a) b h k = absurd (grind (arith, ints))

    shifted : (l : ℤ) → int_lt l first_day ≡ false → int_lt (l -ℤ first_day) (pos 0) ≡ false
    shifted l h = grind (arith, ints)

    later : (l h n : ℤ) → (not (int_lt n l) && not (int_lt h n)) ≡ true
        → int_lt (n -ℤ first_day) (l -ℤ first_day) ≡ false
    later l h n e = grind (arith, ints)

truth-least : (r : Range) (b : Bool) → lies (rank (point.Truth b)) r ≡ true
    → distance (point.Truth (int_lt (pos 0) r.low)) ≤ distance (point.Truth b)
unfolding rank
truth-least r true h = at_most (int_lt (pos 0) r.low)
  where
    at_most : (c : Bool) → distance (point.Truth c) ≤ 1
    at_most true = omega arith
    at_most false = omega arith
truth-least r false h = by (int_lt (pos 0) r.low) refl
  where
    by : (c : Bool) → int_lt (pos 0) r.low ≡ c → distance (point.Truth c) ≤ 0
    by true e = absurd (true≢false (sym (and-parts (not (int_lt (pos 0) r.low)) (not (int_lt r.high (pos 0))) h).0
        ∙ ap not e))
    by false e = omega arith

case-least : (n set k : ℕ) → nat_le n 128 ≡ true → set < 2 ^ n → (set == 0) ≡ false → has set k ≡ true
    → trailing_zeros w128 set ≤ k
case-least n set k few p some h = by (nat_lt k t) refl
  where
    t : ℕ
    t = trailing_zeros w128 set

    facts : (t < 128) × (bit_at set t ≡ 1) × ((i : ℕ) → i < t → bit_at set i ≡ 0)
    facts = bit_at-trailing_zeros w128 set (positive_of set some)
        (omega (arith, p, pow_mono {i = n} {j = 128} (le_of n 128 few)))

    by : (b : Bool) → nat_lt k t ≡ b → t ≤ k
    by true e = absurd (true≢false (sym h ∙ ap (λ (n : ℕ). n == 1) (facts.2 k (lt_of k t e))))
    by false e = not_lt_of k t e

-- a value of what is left lies no nearer to the default
pub least : (d : Dim) (e : Extent) (y : Point) → IsTrue (is_dim d) → IsPart d e → is_none e ≡ false
    → (d ≡ dim.Decimal → ⊥)
    → IsTrue (is_point d y) → is_in e y ≡ true
    → distance (point_in d e) ≤ distance y
unfolding rank
least dim.Whole (Ranks r) (point.Whole n) few p some other of is = nearest-least r.low r.high n is
least dim.Money (Ranks r) (point.Money n) few p some other of is = nearest-least r.low r.high n is
least dim.Day (Ranks r) (point.Day n) few p some other of is = day-least r.low r.high n p.0 is
least dim.Truth (Ranks r) (point.Truth b) few p some other of is = truth-least r b is
least (dim.Cases n) (Cases set) (point.Case k) few p some other of is = case-least n set k few p some is
least (dim.Cases n) (Ranks r) y few p some other of is = absurd p
least dim.Decimal (Ranks r) y few p some other of is = absurd (other refl)
least (dim.Cases n) (Cases set) y few p some other of is = absurd (cc)
least d (Cases set) y few p some other of is = absurd p
least d (Ranks r) y few p some other of is = absurd (cc)
