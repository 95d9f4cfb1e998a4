-- What is left of a dimension is part of it, and has a value where it isn't empty.
use Rattle.std.proofs.Common.{◌≡◌, ◌⊎◌, inl, inr, ℕ, zero, suc, ◌+◌, ◌*◌, ◌/◌, ◌%◌, ◌^◌, ◌<◌, ◌≤◌, ◌==◌, ℤ, pos}
use Rattle.std.proofs.Common.{negsuc, neg_ℤ}
use Rattle.std.proofs.Common.{Bool, true, false, not, IsTrue, refl, sym, ap, ◌∙◌, subst, arith, if◌then◌else◌}
use Rattle.std.proofs.Common.{unsigned_abs, cond}
use Rattle.std.specs.Prelude.{int_lt, int_le, ◌+ℤ◌, ◌-ℤ◌, ◌&&◌, nat_le, nat_lt}
use Rattle.std.specs.Int.{bit_at, bit_not, int_min, int_max}
use mir.Syntax.{w128}
use Rattle.std.proofs.lemmas.Int.{ints, unsigned_abs-mul}
use Rattle.std.proofs.lemmas.Nat.{and_le_l}
use Rattle.std.proofs.lemmas.Nat.Bits.{bit_at-zero, bit_at_ones}
use Rattle.std.proofs.Math.Pow.{pow-sub-lt}
use Rattle.std.proofs.Math.Nat.{div-le_self, mul-le-mul_right, mul-div-le}
use Rattle.cat_num.specs.Whole.{largest, fits}
use Rattle.cat_num.specs.Frac.{Fraction, is_reduced, is_negative, signed, gcd}
use Rattle.cat_num.proofs.Exported.{unsigned_abs-signed}
use Rattle.cat_date.specs.Calendar.{first_day, last_day, is_day}
use Rattle.cat_region.specs.declared.dim.Dim.{Dim}
use Rattle.cat_region.specs.declared.dim.Dim.TheVariants as dim
use Rattle.cat_region.specs.declared.cut.Threshold.TheVariants as threshold
use Rattle.cat_region.specs.declared.cut.Cut.{Cut}
use Rattle.cat_region.specs.declared.cut.Cut.TheVariants as cut
use Rattle.cat_region.specs.declared.point.Point.{Point}
use Rattle.cat_region.specs.declared.point.Point.TheVariants as point
use Rattle.cat_region.specs.declared.extent.Range.{Range}
use Rattle.cat_region.specs.declared.extent.Extent.{Extent}
use Rattle.cat_region.specs.declared.extent.Extent.TheVariants.{Ranks, Cases}
use Rattle.cat_region.specs.Points.{is_point, is_cut, is_bound}
use Rattle.cat_region.specs.Extents.{rank, place, limit, is_under, narrowed, narrowed_range, narrowed_set, one_case}
use Rattle.cat_region.specs.Extents.{start, is_none, farthest}
use Rattle.cat_region.specs.inside.Parts.{IsWithin, IsEnd, IsPart}
use Rattle.cat_region.proofs.Tests.{le_of, lt_of, eq_of, and-parts}
use Rattle.cat_region.proofs.RankLemmas.{odd, size_of, bound_parts}
use Rattle.cat_region.proofs.ExtentLemmas.{lies, is_in}

-- a number of at most that size lies between its negation and itself
pub not-below : (n : ℤ) (m : ℕ) → unsigned_abs n ≤ m → int_lt n (neg_ℤ (pos m)) ≡ false
not-below (pos k) zero h = grind (arith, ints)
not-below (pos k) (suc m) h = refl
not-below (negsuc k) zero h = absurd (omega arith)
not-below (negsuc k) (suc m) h = grind (arith, ints)

pub not-above : (n : ℤ) (m : ℕ) → unsigned_abs n ≤ m → int_lt (pos m) n ≡ false
not-above (pos k) m h = grind (arith, ints)
not-above (negsuc k) m h = refl

pub lies_in : (n : ℤ) (r : Range) → int_lt n r.low ≡ false → int_lt r.high n ≡ false → lies n r ≡ true
lies_in n r h k = rw (h, k) refl

lies_sized : (n : ℤ) (m : ℕ) → unsigned_abs n ≤ m → lies n (record { low = neg_ℤ (pos m); high = pos m }) ≡ true
lies_sized n m h = lies_in n (record { low = neg_ℤ (pos m); high = pos m }) (not-below n m h) (not-above n m h)

odd-small : (r : ℕ) → odd r ≤ 1
odd-small r = by (r == 0)
  where
    by : (b : Bool) → (if b then 0 else 1) ≤ 1
    by true = omega arith
    by false = omega arith

-- the numerator of a decimal fits
num-fits : (f : Fraction) → IsTrue (is_reduced f) → unsigned_abs f.num ≤ largest
num-fits f h =
    let tests = and-parts (nat_lt 0 f.den && nat_le f.den largest && fits f.num) (gcd (unsigned_abs f.num) f.den == 1) h
    in
    le_of (unsigned_abs f.num) largest (and-parts (nat_lt 0 f.den && nat_le f.den largest) (fits f.num) tests.0).1

size-bound : (f : Fraction) → IsTrue (is_reduced f) → size_of (unsigned_abs f.num * 1_000_000_000) f.den ≤ farthest
size-bound f h =
    let fits = num-fits f h in
    omega (
      arith,
      div-le_self (unsigned_abs f.num * 1_000_000_000) f.den,
      odd-small
          (unsigned_abs f.num * 1_000_000_000 % f.den),
    )

-- all of a dimension is left at the start
pub is_in-start : (d : Dim) (x : Point) → IsTrue (is_point d x) → is_in (start d) x ≡ true
unfolding start rank
is_in-start dim.Whole (point.Whole n) h = lies_sized n largest (le_of (unsigned_abs n) largest h)
is_in-start dim.Money (point.Money n) h = lies_sized n largest (le_of (unsigned_abs n) largest h)
is_in-start dim.Day (point.Day n) h = day n h
  where
    first : (n : ℤ) → int_le first_day n ≡ true → int_lt n first_day ≡ false
    first n h = grind (arith, ints)

    last : (n : ℤ) → int_le n last_day ≡ true → int_lt last_day n ≡ false
    last n h = grind (arith, ints)

    day : (n : ℤ) → is_day n ≡ true → lies n (record { low = first_day; high = last_day }) ≡ true
    day n h =
        let both = and-parts (int_le first_day n) (int_le n last_day) h in
        lies_in n (record { low = first_day; high = last_day }) (first n both.0) (last n both.1)
is_in-start dim.Decimal (point.Decimal f) h =
    lies_sized (signed (is_negative f.num) (size_of (unsigned_abs f.num * 1_000_000_000) f.den)) farthest
    (subst (λ (n : ℕ). n ≤ farthest) (sym (unsigned_abs-signed (is_negative f.num)
    (size_of (unsigned_abs f.num * 1_000_000_000) f.den))) (size-bound f h))
is_in-start dim.Truth (point.Truth true) h = refl
is_in-start dim.Truth (point.Truth false) h = refl
is_in-start (dim.Cases n) (point.Case k) h = ap (λ (b : ℕ). b == 1) (bit_at_ones n k (lt_of k n h))
is_in-start d x h = absurd (cc)

-- nothing is in an extent that is none
pub is_in-none : (e : Extent) (x : Point) → is_none e ≡ true → is_in e x ≡ false
is_in-none (Ranks r) x h = none (rank x) r.low r.high h
  where
    none : (n l h : ℤ) → int_lt h l ≡ true → (not (int_lt n l) && not (int_lt h n)) ≡ false
    none n l h e = grind (arith, ints)
is_in-none (Cases set) (point.Case k) h = ap (λ (n : ℕ). bit_at n k == 1) (eq_of set 0 h)
    ∙ ap (λ (n : ℕ). n == 1) (bit_at-zero k)
is_in-none (Cases set) x h = refl

pub IsPart-start : (d : Dim) → IsPart d (start d)
unfolding start
IsPart-start dim.Whole = (refl, refl)
IsPart-start dim.Money = (refl, refl)
IsPart-start dim.Day = (refl, refl)
IsPart-start dim.Decimal = (inl refl, inl refl)
IsPart-start dim.Truth = (refl, refl)
IsPart-start (dim.Cases n) = pow-sub-lt n (omega arith)

-- a part of a range is within the same ranks
within-narrowed : (a b : ℤ) (r : Range) (m : ℤ) (under : Bool) → IsWithin a b r
    → IsWithin a b (narrowed_range r m under)
within-narrowed a b r m true h = (h.0, upper b r.high (m -ℤ pos 1) h.1)
  where
    upper : (b h m : ℤ) → int_lt b h ≡ false → int_lt b (int_min h m) ≡ false
    upper b h m e = grind (arith, ints)
within-narrowed a b r m false h = (lower a r.low m h.0, h.1)
  where
    lower : (a l m : ℤ) → int_lt l a ≡ false → int_lt (int_max l m) a ≡ false
    lower a l m e = grind (arith, ints)

min_is : (a b : ℤ) → (int_min a b ≡ a) ⊎ (int_min a b ≡ b)
min_is a b = by (int_lt b a)
  where
    by : (t : Bool) → (cond t b a ≡ a) ⊎ (cond t b a ≡ b)
    by true = inr refl
    by false = inl refl

max_is : (a b : ℤ) → (int_max a b ≡ a) ⊎ (int_max a b ≡ b)
max_is a b = by (int_lt b a)
  where
    by : (t : Bool) → (cond t a b ≡ a) ⊎ (cond t a b ≡ b)
    by true = inl refl
    by false = inr refl

end-of : (outer a b c : ℤ) → (c ≡ a) ⊎ (c ≡ b) → IsEnd outer a → unsigned_abs b ≤ 2_000_000_000_000_000_001
    → IsEnd outer c
end-of outer a b c (inl e) h k = subst (λ (n : ℤ). IsEnd outer n) (sym e) h
end-of outer a b c (inr e) h k = inr (subst (λ (n : ℤ). unsigned_abs n ≤ 2_000_000_000_000_000_001) (sym e) k)

pub one-more : (n : ℤ) → unsigned_abs (n +ℤ pos 1) ≤ unsigned_abs n + 1
one-more (pos a) = omega arith
one-more (negsuc zero) = omega arith
one-more (negsuc (suc a)) = omega (arith, ap unsigned_abs (same a))
  where
    same : (a : ℕ) → negsuc (suc a) +ℤ pos 1 ≡ negsuc a
    same a = omega (arith, ints)

pub one-less : (n : ℤ) → unsigned_abs (n -ℤ pos 1) ≤ unsigned_abs n + 1
one-less (pos zero) = omega arith
one-less (pos (suc a)) = omega (arith, ap unsigned_abs (same a))
  where
    same : (a : ℕ) → pos (suc a) -ℤ pos 1 ≡ pos a
    same a = omega (arith, ints)
one-less (negsuc a) = omega arith

more-less : (n : ℤ) → n +ℤ pos 1 -ℤ pos 1 ≡ n
more-less n = omega (arith, ints)

-- no bound has a rank past twice 10^18
pub place-bound : (c : Fraction) → IsTrue (is_bound c)
    → unsigned_abs (place (threshold.Decimal c)) ≤ 2_000_000_000_000_000_000
place-bound c h =
    let parts = bound_parts c h in
    let k = 2_000_000_000 / c.den in
    let size : unsigned_abs c.num * k ≤ 1_000_000_000 * c.den * k = mul-le-mul_right k parts.2 in
    subst (λ (n : ℕ). n ≤ 2_000_000_000_000_000_000) (sym (unsigned_abs-mul c.num (pos k)))
    (omega (arith, mul-div-le 2_000_000_000 c.den))

limit-bound : (c : Cut) → IsTrue (is_cut dim.Decimal c) → (unsigned_abs (limit c) ≤ 2_000_000_000_000_000_001)
    × (unsigned_abs (limit c -ℤ pos 1) ≤ 2_000_000_000_000_000_001)
limit-bound (cut.Below (threshold.Decimal c)) h =
    let n = place (threshold.Decimal c) in
    let bound = place-bound c h in
    (omega arith, omega (arith, one-less n))
limit-bound (cut.AtMost (threshold.Decimal c)) h =
    let n = place (threshold.Decimal c) in
    let bound = place-bound c h in (
      omega (arith, one-more n),
      subst (λ (m : ℤ). unsigned_abs m ≤ 2_000_000_000_000_000_001) (sym (more-less n))
          (omega arith),
    )
limit-bound c h = absurd (cc)

set-narrowed : (n set : ℕ) (c : Cut) (so : Bool) → set < 2 ^ n → narrowed_set set c so < 2 ^ n
set-narrowed n set (cut.IsCase k) true h = omega (arith, and_le_l set (one_case k))
set-narrowed n set (cut.IsCase k) false h = omega (arith, and_le_l set (bit_not w128 (one_case k)))
set-narrowed n set c so h = h

-- what a narrowing leaves of a part is a part
pub IsPart-narrowed : (d : Dim) (e : Extent) (c : Cut) (so : Bool) → IsTrue (is_cut d c) → IsPart d e
    → IsPart d (narrowed e c so)
IsPart-narrowed dim.Whole (Ranks r) c so h p =
    within-narrowed (neg_ℤ (pos largest)) (pos largest) r (limit c) (is_under c so) p
IsPart-narrowed dim.Money (Ranks r) c so h p =
    within-narrowed (neg_ℤ (pos largest)) (pos largest) r (limit c) (is_under c so) p
IsPart-narrowed dim.Day (Ranks r) c so h p = within-narrowed first_day last_day r (limit c) (is_under c so) p
IsPart-narrowed dim.Truth (Ranks r) c so h p = within-narrowed (pos 0) (pos 1) r (limit c) (is_under c so) p
IsPart-narrowed dim.Decimal (Ranks r) c so h p = by (is_under c so)
  where
    by : (under : Bool) → IsPart dim.Decimal (Ranks (narrowed_range r (limit c) under))
    by true = (
      p.0,
      end-of (pos farthest) r.high (limit c -ℤ pos 1) (int_min r.high (limit c -ℤ pos 1))
          (min_is r.high (limit c -ℤ pos 1)) p.1 (limit-bound c h).1,
    )
    by false = (
      end-of (neg_ℤ (pos farthest)) r.low (limit c) (int_max r.low (limit c)) (max_is r.low (limit c)) p.0
          (limit-bound c h).0,
      p.1,
    )
IsPart-narrowed (dim.Cases n) (Cases set) c so h p = set-narrowed n set c so p
IsPart-narrowed (dim.Cases n) (Ranks r) c so h p = absurd p
IsPart-narrowed d (Cases set) c so h p = absurd p
