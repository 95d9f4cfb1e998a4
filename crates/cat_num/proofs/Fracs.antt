-- Lowest terms, and what `ratio` gives by cases.
use Rattle.std.proofs.Common.{◌≡◌, ℕ, zero, suc, ◌*◌, ◌/◌, ◌<◌, ◌≤◌, ◌≢◌, ◌⊎◌, ◌↔◌, inl, inr, ℤ, pos, negsuc, neg_ℤ}
use Rattle.std.proofs.Common.{◌*ℤ◌, unsigned_abs, Ok, Err, refl, sym, ap, ◌∙◌, arith}
use Rattle.std.proofs.lemmas.Bool.Decides.{nat_tests}
use Rattle.std.proofs.lemmas.Int.{unsigned_abs-mul}
use Rattle.std.proofs.Math.Nat.{eq_of_mul-eq-mul_left, div-le_self, le_trans, eq-zero-or-pos}
use Rattle.cat_num.specs.declared.fault.NumFault.TheVariants.{Overflow, DivisionByZero}
use Rattle.cat_num.specs.Whole.{largest, Fits}
use Rattle.cat_num.specs.Frac.{Fraction, IsReduced, gcd, is_negative, signed, lowest, ratio, frac_of}
use Rattle.cat_num.specs.Laws.{AreEqual}
use Rattle.cat_num.proofs.Gcd.{gcd-positive, gcd-lowest, gcd_divides-left, gcd_divides-right, reduced-positive}
use Rattle.cat_num.proofs.Gcd.{same_lowest}
use Rattle.cat_num.proofs.Signs.{unsigned_abs-signed, signed_parts, signed-product, sign_from_cross}

pub ratio-zero : (n : ℤ) (d : ℕ) → d ≡ 0 → ratio n d ≡ Err DivisionByZero
unfolding ratio
ratio-zero n d h = rw h

pub ratio-large_num : (n : ℤ) (d : ℕ) → 0 < d → largest < unsigned_abs n / gcd (unsigned_abs n) d
    → ratio n d ≡ Err Overflow
unfolding ratio lowest
ratio-large_num n d h big = grind (arith, nat_tests, unsigned_abs-signed)

pub ratio-large_den : (n : ℤ) (d : ℕ) → 0 < d → largest < d / gcd (unsigned_abs n) d → ratio n d ≡ Err Overflow
unfolding ratio lowest
ratio-large_den n d h big = grind (arith, nat_tests, unsigned_abs-signed)

pub ratio-fits : (n : ℤ) (d : ℕ) → 0 < d → unsigned_abs n / gcd (unsigned_abs n) d ≤ largest → d / gcd (unsigned_abs n)
    d ≤ largest → ratio n d ≡ Ok (lowest n d)
unfolding ratio lowest
ratio-fits n d h p q = grind (arith, nat_tests, unsigned_abs-signed)

pub lowest_parts : (n : ℤ) (d : ℕ)
    → lowest n d ≡ record {
      num = signed (is_negative n) (unsigned_abs n / gcd (unsigned_abs n) d);
      den =
          d / gcd (unsigned_abs n) d;
    }
unfolding lowest
lowest_parts n d = refl

-- n / d is in lowest terms once both parts fit
pub IsReduced-lowest : (n : ℤ) (d : ℕ) → 0 < d → unsigned_abs n / gcd (unsigned_abs n) d ≤ largest
    → d / gcd (unsigned_abs n) d ≤ largest
    → IsReduced (signed (is_negative n) (unsigned_abs n / gcd (unsigned_abs n) d)) (d / gcd (unsigned_abs n) d)
IsReduced-lowest n d h p q =
    let size = unsigned_abs-signed (is_negative n) (unsigned_abs n / gcd (unsigned_abs n) d) in
    record {
      positive = reduced-positive (unsigned_abs n) d h;
      den_fits = q;
      num_fits = omega arith;
      lowest_terms = ap (λ m. gcd m (d / gcd (unsigned_abs n) d)) size ∙ gcd-lowest (unsigned_abs n) d h;
    }

cross_sizes : (a b : ℕ) → (a / gcd a b) * b ≡ a * (b / gcd a b)
cross_sizes a b =
    ap (λ x. (a / gcd a b) * x) (sym (gcd_divides-right a b)) ∙ regroup (a / gcd a b) (gcd a b) (b / gcd a b)
    ∙ ap (λ x. x * (b / gcd a b)) (gcd_divides-left a b)
  where
    regroup : (x g y : ℕ) → x * (g * y) ≡ (g * x) * y
    regroup x g y = omega arith

-- lowest terms have the same value: the cross products agree
pub lowest-cross : (n : ℤ) (d : ℕ) → (lowest n d).num *ℤ pos d ≡ n *ℤ pos (lowest n d).den
unfolding lowest
lowest-cross n d =
    signed-product (is_negative n) (unsigned_abs n / gcd (unsigned_abs n) d) d ∙ ap (signed (is_negative n))
    (cross_sizes (unsigned_abs n) d)
    ∙ sym (signed-product (is_negative n) (unsigned_abs n) (d / gcd (unsigned_abs n) d))
    ∙ ap (λ m. m *ℤ pos (d / gcd (unsigned_abs n) d)) (signed_parts n)

-- lowest terms are unique: a reduced fraction with the value n / d is n / d in lowest terms
parts_are : (a b n d : ℕ) → 0 < b → 0 < d → gcd a b ≡ 1 → a * d ≡ n * b → (a ≡ n / gcd n d) × (b ≡ d / gcd n d)
parts_are a b n d h k p e =
    same_lowest a b (n / gcd n d) (d / gcd n d) h p (gcd-lowest n d k)
    (eq_of_mul-eq-mul_left (gcd n d) (gcd-positive n d k) (a * (d / gcd n d)) (n / gcd n d * b)
    (turn (gcd n d) a (d / gcd n d) ∙ ap (λ x. a * x) (gcd_divides-right n d) ∙ e
    ∙ ap (λ x. x * b) (sym (gcd_divides-left n d)) ∙ regroup (gcd n d) (n / gcd n d) b))
  where
    turn : (g a x : ℕ) → g * (a * x) ≡ a * (g * x)
    turn g a x = omega arith

    regroup : (g x b : ℕ) → (g * x) * b ≡ g * (x * b)
    regroup g x b = omega arith

pub lowest_is : (f : Fraction) (n : ℤ) (d : ℕ) → 0 < d → IsReduced f.num f.den → f.num *ℤ pos d ≡ n *ℤ pos f.den
    → lowest n d ≡ f
unfolding lowest
lowest_is f n d k r e =
    let sizes : unsigned_abs f.num * d ≡ unsigned_abs n * f.den =
    sym (unsigned_abs-mul f.num (pos d)) ∙ ap unsigned_abs e ∙ unsigned_abs-mul n (pos f.den) in
    let parts = parts_are (unsigned_abs f.num) f.den (unsigned_abs n) d r.positive k r.lowest_terms sizes in
    let size : signed (is_negative n) (unsigned_abs n / gcd (unsigned_abs n) d) ≡ f.num =
    ap (signed (is_negative n)) (sym parts.0) ∙ sign_from_cross f.num n d f.den k r.positive e in
    whole f (signed (is_negative n) (unsigned_abs n / gcd (unsigned_abs n) d)) (d / gcd (unsigned_abs n) d) size
    (sym parts.1)
  where
    whole : (f : Fraction) (x : ℤ) (y : ℕ) → x ≡ f.num → y ≡ f.den → record { num = x; den = y } ≡ f
    whole f x y p q = ap (λ (z : ℤ). record { num = z; den = y }) p ∙ ap (λ (w : ℕ). record { num = f.num; den = w }) q

pub lowest_self : (f : Fraction) → IsReduced f.num f.den → lowest f.num f.den ≡ f
lowest_self f r = lowest_is f f.num f.den r.positive r refl

-- two reduced fractions are equal where their cross products agree
pub same_from_cross : (f g : Fraction) → IsReduced f.num f.den → IsReduced g.num g.den → f.num *ℤ pos g.den ≡ g.num *ℤ
    pos f.den → f ≡ g
same_from_cross f g r s e = sym (lowest_is f g.num g.den s.positive r e) ∙ lowest_self g s

-- the same, both ways
pub equal_is_cross : (f g : Fraction) → IsReduced f.num f.den → IsReduced g.num g.den → (f ≡ g) ↔ AreEqual f.num f.den
    g.num g.den
equal_is_cross f g r s = (
  λ e. ap (λ (h : Fraction). h.num *ℤ pos g.den) e ∙ ap (λ (h : Fraction). g.num *ℤ pos h.den)
      (sym e),
  same_from_cross f g r s,
)

-- a quotient of numbers that fit has parts that fit
pub ratio-of_fitting : (n : ℤ) (d : ℕ) → 0 < d → Fits n → d ≤ largest → ratio n d ≡ Ok (lowest n d)
ratio-of_fitting n d h p q =
    ratio-fits n d h (le_trans (div-le_self (unsigned_abs n) _) p) (le_trans (div-le_self d _) q)

fits_either : (n : ℤ) (d : ℕ) → Fits n → d ≤ largest → ratio n d ≢ Err Overflow
fits_either n d p q = by d (eq-zero-or-pos d) q
  where
    by : (d : ℕ) → (d ≡ 0) ⊎ (0 < d) → d ≤ largest → ratio n d ≢ Err Overflow
    by d (inl z) q e = cc (ratio-zero n d z)
    by d (inr h) q e = cc (ratio-of_fitting n d h p q)

pub frac_of-fits : (n d : ℤ) → Fits n → Fits d → frac_of n d ≢ Err Overflow
frac_of-fits n (pos d) p q = fits_either n d p q
frac_of-fits n (negsuc d) p q = fits_either (neg_ℤ n) (suc d) (same_size n p) q
  where
    same_size : (n : ℤ) → Fits n → Fits (neg_ℤ n)
    same_size (pos zero) h = h
    same_size (pos (suc n)) h = h
    same_size (negsuc n) h = h

pub lowest-positive : (n : ℤ) (d : ℕ) → 0 < d → 0 < (lowest n d).den
unfolding lowest
lowest-positive n d h = reduced-positive (unsigned_abs n) d h

pub lowest-coprime : (n : ℤ) (d : ℕ) → 0 < d → gcd (unsigned_abs (lowest n d).num) (lowest n d).den ≡ 1
unfolding lowest
lowest-coprime n d h =
    ap (λ m. gcd m (d / gcd (unsigned_abs n) d))
    (unsigned_abs-signed (is_negative n) (unsigned_abs n / gcd (unsigned_abs n) d))
    ∙ gcd-lowest (unsigned_abs n) d h
