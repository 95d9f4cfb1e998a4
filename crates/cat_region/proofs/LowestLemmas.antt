-- Decimals in lowest terms, and their ranks.
use Rattle.std.proofs.Common.{◌≡◌, ℕ, zero, suc, ◌+◌, ◌*◌, ◌/◌, ◌%◌, ◌<◌, ◌≤◌, ◌==◌, ℤ}
use Rattle.std.proofs.Common.{Bool, true, false, refl, sym, ap, ◌∙◌, arith, if◌then◌else◌, unsigned_abs}
use Rattle.std.specs.Prelude.{◌&&◌, nat_le, nat_lt}
use Rattle.std.proofs.Math.Nat.{mul-div_cancel', mul-zero, mul-div-mul_left, div-add-mod, mod-lt, div-le_self, le_trans}
use Rattle.cat_num.specs.Whole.{largest, fits}
use Rattle.cat_num.specs.Frac.{Fraction, IsReduced, gcd, lowest, is_negative, signed, is_reduced}
use Rattle.cat_num.proofs.Exported.{IsReduced-lowest, gcd_is, lowest_parts, positive_factors}
use Rattle.cat_region.specs.declared.point.Point.TheVariants as point
use Rattle.cat_region.specs.Extents.{rank}
use Rattle.cat_region.proofs.Tests.{le_is, lt_is, eq_is, positive_is, and-both}
use Rattle.cat_region.proofs.RankLemmas.{odd, size_of, size-same}

-- a common factor leaves size and rest as they are
mod-scaled : (g a b : ℕ) → 0 < g → 0 < b → (g * a) % (g * b) ≡ g * (a % b)
mod-scaled g a b p q =
    let whole : g * b * (g * a / (g * b)) + g * a % (g * b) ≡ g * a = div-add-mod (g * a) (g * b) in
    let part : g * (b * (a / b) + a % b) ≡ g * a = ap (λ (n : ℕ). g * n) (div-add-mod a b) in
    let same : g * b * (g * a / (g * b)) ≡ g * b * (a / b) = ap (λ (n : ℕ). g * b * n) (mul-div-mul_left a b p) in
    omega arith

odd-scaled : (g r : ℕ) → 0 < g → odd (g * r) ≡ odd r
odd-scaled g zero p = ap odd (mul-zero g)
odd-scaled zero (suc r) p = absurd (omega arith)
odd-scaled (suc g) (suc r) p = ap (λ b. if b then 0 else 1)
    (positive_is (suc g * suc r) (omega arith) ∙ sym (positive_is (suc r) (omega arith)))

pub size-scaled : (g a b : ℕ) → 0 < g → 0 < b → size_of (g * a) (g * b) ≡ size_of a b
size-scaled g a b p q =
    ap (λ (n : ℕ). 2 * n + odd (g * a % (g * b))) (mul-div-mul_left a b p)
    ∙ ap (λ (n : ℕ). 2 * (a / b) + n) (ap odd (mod-scaled g a b p q) ∙ odd-scaled g (a % b) p)

resigned : (s : Bool) (n : ℕ) (f : ℕ → ℕ) → f 0 ≡ 0
    → signed (is_negative (signed s n)) (f (unsigned_abs (signed s n))) ≡ signed s (f n)
resigned true zero f h = rw h refl
resigned true (suc n) f h = refl
resigned false n f h = refl

-- the rank of a fraction in lowest terms
pub rank-lowest : (n : ℤ) (d : ℕ) → 0 < d → rank (point.Decimal (lowest n d)) ≡ signed (is_negative n)
    (size_of (unsigned_abs n * 1_000_000_000) d)
unfolding rank
rank-lowest n d p =
    let g = gcd (unsigned_abs n) d in
    let a = unsigned_abs n / g in
    let b = d / g in
    let left : g * a ≡ unsigned_abs n = mul-div_cancel' g (gcd_is (unsigned_abs n) d).0 in
    let right : g * b ≡ d = mul-div_cancel' g (gcd_is (unsigned_abs n) d).1 in
    let positive = positive_factors g b d right p in
    ap (λ (f : Fraction). signed (is_negative f.num) (size_of (unsigned_abs f.num * 1_000_000_000) f.den))
    (lowest_parts n d)
    ∙ resigned (is_negative n) a (λ (m : ℕ). size_of (m * 1_000_000_000) b) (size-same 0 b 0 positive.1 (omega arith))
    ∙ ap (signed (is_negative n))
    (sym (size-scaled g (a * 1_000_000_000) b positive.0 positive.1)
    ∙ ap (λ (m : ℕ). size_of m (g * b)) (omega (arith, ap (λ (m : ℕ). m * 1_000_000_000) left))
    ∙ ap (size_of (unsigned_abs n * 1_000_000_000)) right)

size-two : (k : ℕ) → size_of k 2 ≡ k
size-two k = by (k % 2) (div-add-mod k 2) (mod-lt k (omega arith))
  where
    by : (r : ℕ) → 2 * (k / 2) + r ≡ k → r < 2 → 2 * (k / 2) + odd r ≡ k
    by zero e h = e
    by (suc zero) e h = e
    by (suc (suc r)) e h = absurd (omega arith)

-- a fraction of half units has their number as its rank
pub rank-halves : (s : Bool) (j k : ℕ) → 0 < j
    → rank (point.Decimal (lowest (signed s (j * k)) (j * 2_000_000_000))) ≡ signed s k
rank-halves s j k p =
    rank-lowest (signed s (j * k)) (j * 2_000_000_000) (omega arith)
    ∙ resigned s (j * k) (λ (m : ℕ). size_of (m * 1_000_000_000) (j * 2_000_000_000))
    (size-same 0 (j * 2_000_000_000) 0 (omega arith) (omega arith))
    ∙ ap (signed s) (ap (λ (m : ℕ). size_of m (j * 2_000_000_000)) (omega arith)
    ∙ ap (size_of (j * 1_000_000_000 * k)) (omega arith)
    ∙ size-scaled (j * 1_000_000_000) k 2 (omega arith) (omega arith) ∙ size-two k)

pub reduced_test : (f : Fraction) → IsReduced f.num f.den → is_reduced f ≡ true
reduced_test f r =
    and-both (nat_lt 0 f.den && nat_le f.den largest && fits f.num) (gcd (unsigned_abs f.num) f.den == 1)
    (and-both (nat_lt 0 f.den && nat_le f.den largest) (fits f.num)
    (and-both (nat_lt 0 f.den) (nat_le f.den largest) (lt_is 0 f.den r.positive) (le_is f.den largest r.den_fits))
    (le_is (unsigned_abs f.num) largest r.num_fits)) (eq_is (gcd (unsigned_abs f.num) f.den) 1 r.lowest_terms)

pub is_reduced-lowest : (n : ℤ) (d : ℕ) → 0 < d → unsigned_abs n ≤ largest → d ≤ largest
    → is_reduced (lowest n d) ≡ true
is_reduced-lowest n d p h k =
    ap is_reduced (lowest_parts n d)
    ∙ reduced_test (record {
      num = signed (is_negative n) (unsigned_abs n / gcd (unsigned_abs n) d);
      den = d / gcd (unsigned_abs n) d;
    })
    (IsReduced-lowest n d p (le_trans (div-le_self (unsigned_abs n) _) h) (le_trans (div-le_self d _) k))
