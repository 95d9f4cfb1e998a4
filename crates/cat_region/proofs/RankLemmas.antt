-- Values stand to thresholds as their ranks do.
use Rattle.std.proofs.Common.{◌≡◌, ◌⊎◌, inl, inr, ℕ, zero, suc, ◌+◌, ◌*◌, ◌/◌, ◌%◌, ◌<◌, ◌≤◌, ◌==◌, ℤ, pos, negsuc}
use Rattle.std.proofs.Common.{◌*ℤ◌, ◌<ℤ◌}
use Rattle.std.proofs.Common.{Bool, true, false, IsTrue, refl, sym, ap, ◌∙◌, subst, arith, if◌then◌else◌, unsigned_abs}
use Rattle.std.proofs.Common.{cond, true≢false, not}
use Rattle.std.specs.Prelude.{int_lt, ◌+ℤ◌, ◌&&◌, nat_le, nat_lt}
use Rattle.std.proofs.lemmas.Int.{ints}
use Rattle.std.proofs.Math.Nat.{div-add-mod, mod-lt, lt_of_mul-lt-mul_left, mul-lt-mul_of_pos_right, mul-div_cancel}
use Rattle.std.specs.declared.cmp.Ordering.{Ordering}
use Rattle.std.specs.declared.cmp.Ordering.TheVariants.{Less, Equal, Greater}
use Rattle.std.specs.Ordering.{int_cmp, MatchOrdering, is_lt, is_le}
use Rattle.std.specs.Cmp.{int_ranks, int_cmp_is}
use Rattle.cat_num.specs.Frac.{Fraction, frac_order, is_negative, signed, is_reduced, gcd}
use Rattle.cat_num.specs.Whole.{largest, fits}
use Rattle.cat_region.specs.declared.dim.Dim.{Dim}
use Rattle.cat_region.specs.declared.dim.Dim.TheVariants as dim
use Rattle.cat_region.specs.declared.cut.Threshold.{Threshold}
use Rattle.cat_region.specs.declared.cut.Threshold.TheVariants as threshold
use Rattle.cat_region.specs.declared.point.Point.{Point}
use Rattle.cat_region.specs.declared.point.Point.TheVariants as point
use Rattle.cat_region.specs.Points.{is_point, is_threshold, is_bound, point_order}
use Rattle.cat_region.specs.Extents.{rank, place}
use Rattle.cat_region.proofs.Tests.{le_of, lt_of, eq_of, positive_is, and-parts}

-- one where a rest is left
abbrev pub odd : ℕ → ℕ
odd r = if r == 0 then 0 else 1

odd_is : (r : ℕ) → ((r ≡ 0) × (odd r ≡ 0)) ⊎ ((0 < r) × (odd r ≡ 1))
odd_is zero = inl (refl, refl)
odd_is (suc r) = inr (omega arith, ap (λ b. if b then 0 else 1) (positive_is (suc r) (omega arith)))

abbrev pub size_of : ℕ → ℕ → ℕ
size_of a d = 2 * (a / d) + odd (a % d)

size-less : (a d m : ℕ) → 0 < d → a < m * d → size_of a d < 2 * m
size-less a d m p h = by (odd_is (a % d))
  where
    less : a / d < m
    less = lt_of_mul-lt-mul_left d (omega (arith, div-add-mod a d))

    by : ((a % d ≡ 0) × (odd (a % d) ≡ 0)) ⊎ ((0 < a % d) × (odd (a % d) ≡ 1)) → size_of a d < 2 * m
    by (inl e) = omega (arith, less, e.1)
    by (inr e) = omega (arith, less, e.1)

size-more : (a d m : ℕ) → 0 < d → m * d < a → 2 * m < size_of a d
size-more a d m p h = by (odd_is (a % d))
  where
    by : ((a % d ≡ 0) × (odd (a % d) ≡ 0)) ⊎ ((0 < a % d) × (odd (a % d) ≡ 1)) → 2 * m < size_of a d
    by (inl e) = omega (arith, e.1, lt_of_mul-lt-mul_left d {m = m} {n = a / d} (omega (arith, div-add-mod a d, e.0)))
    by (inr e) = omega (
      arith,
      e.1,
      lt_of_mul-lt-mul_left d {m = m} {n = suc (a / d)}
          (omega (arith, div-add-mod a d, mod-lt a p)),
    )

pub size-same : (a d m : ℕ) → 0 < d → a ≡ m * d → size_of a d ≡ 2 * m
size-same a d m p h = by (odd_is (a % d))
  where
    quotient : a / d ≡ m
    quotient = ap (λ (n : ℕ). n / d) h ∙ mul-div_cancel m p

    by : ((a % d ≡ 0) × (odd (a % d) ≡ 0)) ⊎ ((0 < a % d) × (odd (a % d) ≡ 1)) → size_of a d ≡ 2 * m
    by (inl e) = omega (arith, quotient, e.1)
    by (inr e) = absurd (omega (arith, ap (λ (n : ℕ). d * n) quotient, div-add-mod a d, e.0))

-- sizes in units stand to each other as cross products do
cross-less : (a d b e k u : ℕ) → 0 < d → 0 < k → u ≡ e * k → a * e < b * d → size_of (a * u) d < b * (2 * k)
cross-less a d b e k u p q is h =
    let times : a * e * k < b * d * k = mul-lt-mul_of_pos_right h q in
    omega (arith, size-less (a * u) d (b * k) p (omega (arith, times, ap (λ (n : ℕ). a * n) is)))

cross-more : (a d b e k u : ℕ) → 0 < d → 0 < k → u ≡ e * k → b * d < a * e → b * (2 * k) < size_of (a * u) d
cross-more a d b e k u p q is h =
    let times : b * d * k < a * e * k = mul-lt-mul_of_pos_right h q in
    omega (arith, size-more (a * u) d (b * k) p (omega (arith, times, ap (λ (n : ℕ). a * n) is)))

cross-same : (a d b e k u : ℕ) → 0 < d → u ≡ e * k → a * e ≡ b * d → size_of (a * u) d ≡ b * (2 * k)
cross-same a d b e k u p is h =
    omega (arith, size-same (a * u) d (b * k) p (omega (arith, ap (λ (n : ℕ). n * k) h, ap (λ (n : ℕ). a * n) is)))

signed_order : (n : ℤ) (d : ℕ) (m : ℤ) (e k u : ℕ) → 0 < d → 0 < e → 0 < k → u ≡ e * k → (r : Ordering)
    → MatchOrdering r ((n *ℤ pos e) <ℤ (m *ℤ pos d)) (n *ℤ pos e ≡ m *ℤ pos d) ((m *ℤ pos d) <ℤ (n *ℤ pos e))
    → MatchOrdering r (signed (is_negative n) (size_of (unsigned_abs n * u) d) <ℤ (m *ℤ pos (2 * k)))
    (signed (is_negative n) (size_of (unsigned_abs n * u) d) ≡ m *ℤ pos (2 * k))
    ((m *ℤ pos (2 * k)) <ℤ signed (is_negative n) (size_of (unsigned_abs n * u) d))
signed_order (pos a) d (pos b) e k u p l q is Less h =
    omega (arith, ints, cross-less a d b e k u p q is (omega (arith, ints)))
signed_order (pos a) d (pos b) e k u p l q is Equal h =
    omega (arith, ints, cross-same a d b e k u p is (omega (arith, ints)))
signed_order (pos a) d (pos b) e k u p l q is Greater h =
    omega (arith, ints, cross-more a d b e k u p q is (omega (arith, ints)))
signed_order (pos a) d (negsuc b) e k u p l q is Less h = absurd (omega (arith, ints))
signed_order (pos a) d (negsuc b) e k u p l q is Equal h = absurd (omega (arith, ints))
signed_order (pos a) d (negsuc b) e k u p l q is Greater h = omega (arith, ints)
signed_order (negsuc a) d (pos b) e k u p l q is Less h =
    omega (arith, ints, cross-more (suc a) d 0 e k u p q is (omega arith))
signed_order (negsuc a) d (pos b) e k u p l q is Equal h = absurd (omega (arith, ints))
signed_order (negsuc a) d (pos b) e k u p l q is Greater h = absurd (omega (arith, ints))
signed_order (negsuc a) d (negsuc b) e k u p l q is Less h =
    omega (arith, ints, cross-more (suc a) d (suc b) e k u p q is (omega (arith, ints)))
signed_order (negsuc a) d (negsuc b) e k u p l q is Equal h =
    omega (arith, ints, cross-same (suc a) d (suc b) e k u p is (omega (arith, ints)))
signed_order (negsuc a) d (negsuc b) e k u p l q is Greater h =
    omega (arith, ints, cross-less (suc a) d (suc b) e k u p q is (omega (arith, ints)))

factor-positive : (a d k : ℕ) → 0 < a → a ≡ d * k → 0 < k
factor-positive a d zero p is = absurd (omega arith)
factor-positive a d (suc k) p is = omega arith

-- what a bound is
pub bound_parts : (c : Fraction) → IsTrue (is_bound c) → IsTrue (is_reduced c)
    × (1_000_000_000 ≡ c.den * (1_000_000_000 / c.den)) × (unsigned_abs c.num ≤ 1_000_000_000 * c.den)
bound_parts c h =
    let both = and-parts (is_reduced c && 1_000_000_000 % c.den == 0)
    (nat_le (unsigned_abs c.num) (1_000_000_000 * c.den)) h in
    let front = and-parts (is_reduced c) (1_000_000_000 % c.den == 0) both.0 in
    (front.0, exact (1_000_000_000 % c.den) front.1 refl, le_of (unsigned_abs c.num) (1_000_000_000 * c.den) both.1)
  where
    exact : (r : ℕ) → (r == 0) ≡ true → r ≡ 1_000_000_000 % c.den → 1_000_000_000 ≡ c.den * (1_000_000_000 / c.den)
    exact r k e = omega (arith, eq_of r 0 k, div-add-mod 1_000_000_000 c.den)

pub positive_den : (f : Fraction) → IsTrue (is_reduced f) → 0 < f.den
positive_den f h =
    let tests = and-parts (nat_lt 0 f.den && nat_le f.den largest && fits f.num) (gcd (unsigned_abs f.num) f.den == 1) h
    in
    let dens = and-parts (nat_lt 0 f.den && nat_le f.den largest) (fits f.num) tests.0 in
    lt_of 0 f.den (and-parts (nat_lt 0 f.den) (nat_le f.den largest) dens.0).0

pub double : (d k : ℕ) → 0 < d → 1_000_000_000 ≡ d * k → 2_000_000_000 / d ≡ 2 * k
double d k p is = ap (λ (n : ℕ). n / d) (omega (arith, is)) ∙ mul-div_cancel (2 * k) p

decimal_order : (f c : Fraction) → IsTrue (is_reduced f) → IsTrue (is_bound c)
    → frac_order f c ≡ int_cmp (rank (point.Decimal f)) (place (threshold.Decimal c))
unfolding rank
decimal_order f c hf hc =
    let parts = bound_parts c hc in
    let k = 1_000_000_000 / c.den in
    let l = positive_den c parts.0 in
    int_cmp_is (rank (point.Decimal f)) (place (threshold.Decimal c)) (frac_order f c)
    (subst (λ (m : ℕ). MatchOrdering (frac_order f c) (rank (point.Decimal f) <ℤ (c.num *ℤ pos m))
    (rank (point.Decimal f) ≡ c.num *ℤ pos m) ((c.num *ℤ pos m) <ℤ rank (point.Decimal f)))
    (sym (double c.den k l parts.1))
    (signed_order f.num f.den c.num c.den k 1_000_000_000 (positive_den f hf) l
    (factor-positive 1_000_000_000 c.den k (omega arith) parts.1) parts.1 (frac_order f c)
    (int_ranks (f.num *ℤ pos c.den) (c.num *ℤ pos f.den))))

-- a value stands to a threshold as its rank to the threshold's place
pub point_order-ranks : (d : Dim) (c : Threshold) (x : Point) → IsTrue (is_threshold d c) → IsTrue (is_point d x)
    → point_order x c ≡ int_cmp (rank x) (place c)
unfolding rank
point_order-ranks dim.Whole (threshold.Whole c) (point.Whole n) h k = refl
point_order-ranks dim.Money (threshold.Money c) (point.Money n) h k = refl
point_order-ranks dim.Day (threshold.Day c) (point.Day n) h k = refl
point_order-ranks dim.Decimal (threshold.Decimal c) (point.Decimal f) h k = decimal_order f c k h
point_order-ranks d c x h k = absurd (cc)

pub is_lt-int_cmp : (a b : ℤ) → is_lt (int_cmp a b) ≡ int_lt a b
is_lt-int_cmp a b = by (int_lt a b) (int_lt b a)
  where
    by : (x y : Bool) → is_lt (cond x Less (cond y Greater Equal)) ≡ x
    by true y = refl
    by false true = refl
    by false false = refl

pub is_le-int_cmp : (a b : ℤ) → is_le (int_cmp a b) ≡ int_lt a (b +ℤ pos 1)
is_le-int_cmp a b = by (int_lt a b) (int_lt b a) (λ h. apart a b h) ∙ sym (next a b)
  where
    apart : (a b : ℤ) → int_lt a b ≡ true → int_lt b a ≡ false
    apart a b h = grind (arith, ints)

    next : (a b : ℤ) → int_lt a (b +ℤ pos 1) ≡ not (int_lt b a)
    next a b = grind (arith, ints)

    by : (x y : Bool) → (x ≡ true → y ≡ false) → is_le (cond x Less (cond y Greater Equal)) ≡ not y
    by true true h = absurd (true≢false (h refl))
    by true false h = refl
    by false true h = refl
    by false false h = refl
