-- The greatest common divisor: Euclid's step keeps it, and what has no common divisor with a factor divides the other.
use Rattle.std.proofs.Common.{◌≡◌, ℕ, zero, suc, ◌+◌, ◌*◌, ◌/◌, ◌%◌, ◌<◌, ◌⊎◌, inl, inr, refl, sym, ap, ◌∙◌, subst}
use Rattle.std.proofs.Common.{arith}
use Rattle.std.specs.Int.{IsGcd}
use Prim.Native.Nat.{◌∣◌}
use Rattle.std.proofs.lemmas.Nat.Gcd.{IsGcd-from_zero, IsGcd-from_mod, same_from_IsGcd}
use Rattle.std.proofs.Math.Nat.{dvd-zero, dvd-mul_left, dvd-mul_right, dvd_antisymm, dvd_of_mul-dvd-mul_left}
use Rattle.std.proofs.Math.Nat.{mul-dvd-mul_left, mul-div_cancel', eq-zero-or-pos, eq_of_mul-eq-mul_left}
use Rattle.std.proofs.Math.Nat.{eq_of_mul-eq-mul_right}
use Rattle.cat_num.specs.Frac.{gcd_to, gcd}

gcd_to_is : (k a b : ℕ) → b < k → IsGcd a b (gcd_to k a b)
gcd_to_is zero a b h = absurd (omega arith)
gcd_to_is (suc k) a zero h = IsGcd-from_zero a 0 refl
gcd_to_is (suc k) a (suc b) h = IsGcd-from_mod a (suc b) _ (gcd_to_is k (suc b) (a % suc b) (omega arith))

pub gcd_is : (a b : ℕ) → IsGcd a b (gcd a b)
unfolding gcd
gcd_is a b = gcd_to_is (b + 1) a b (omega arith)

pub gcd-zero : (a b : ℕ) → b ≡ 0 → gcd a b ≡ a
gcd-zero a b h = same_from_IsGcd a b _ _ (gcd_is a b) (IsGcd-from_zero a b h)

pub gcd-mod : (a b : ℕ) → gcd b (a % b) ≡ gcd a b
gcd-mod a b = same_from_IsGcd a b _ _ (IsGcd-from_mod a b _ (gcd_is b (a % b))) (gcd_is a b)

pub gcd_divides-left : (a b : ℕ) → gcd a b * (a / gcd a b) ≡ a
gcd_divides-left a b = mul-div_cancel' (gcd a b) (gcd_is a b).0

pub gcd_divides-right : (a b : ℕ) → gcd a b * (b / gcd a b) ≡ b
gcd_divides-right a b = mul-div_cancel' (gcd a b) (gcd_is a b).1

pub positive_factors : (g m b : ℕ) → g * m ≡ b → 0 < b → (0 < g) × (0 < m)
positive_factors zero m b e h = absurd (omega arith)
positive_factors (suc g) zero b e h = absurd (omega arith)
positive_factors (suc g) (suc m) b e h = (omega arith, omega arith)

pub gcd-positive : (a b : ℕ) → 0 < b → 0 < gcd a b
gcd-positive a b h = (positive_factors (gcd a b) (b / gcd a b) b (gcd_divides-right a b) h).0

pub reduced-positive : (a b : ℕ) → 0 < b → 0 < b / gcd a b
reduced-positive a b h = (positive_factors (gcd a b) (b / gcd a b) b (gcd_divides-right a b) h).1

-- the greatest common divisor of two multiples of c, without its factor c, divides that of the others
quotient_divides : (c a b : ℕ) → 0 < c → gcd (c * a) (c * b) ∣ c * gcd a b
quotient_divides c a b h =
    let above : c ∣ gcd (c * a) (c * b) = (gcd_is (c * a) (c * b)).2 c (dvd-mul_right c a) (dvd-mul_right c b) in
    let split : c * (gcd (c * a) (c * b) / c) ≡ gcd (c * a) (c * b) = mul-div_cancel' c above in
    let left = subst (λ m. m ∣ c * a) (sym split) (gcd_is (c * a) (c * b)).0 in
    let right = subst (λ m. m ∣ c * b) (sym split) (gcd_is (c * a) (c * b)).1 in
    subst (λ m. m ∣ c * gcd a b) split
    (mul-dvd-mul_left (gcd (c * a) (c * b) / c) c
    ((gcd_is a b).2 (gcd (c * a) (c * b) / c) (dvd_of_mul-dvd-mul_left _ h left) (dvd_of_mul-dvd-mul_left _ h right)))

-- a common factor comes out
pub gcd-scaled : (c a b : ℕ) → 0 < c → gcd (c * a) (c * b) ≡ c * gcd a b
gcd-scaled c a b h =
    dvd_antisymm (quotient_divides c a b h)
    ((gcd_is (c * a) (c * b)).2 (c * gcd a b) (mul-dvd-mul_left (gcd a b) c (gcd_is a b).0)
    (mul-dvd-mul_left (gcd a b) c (gcd_is a b).1))

-- divided by their greatest common divisor, two numbers have no common divisor but 1
pub gcd-lowest : (a b : ℕ) → 0 < b → gcd (a / gcd a b) (b / gcd a b) ≡ 1
gcd-lowest a b h =
    let g = gcd a b in
    let scaled : gcd (g * (a / g)) (g * (b / g)) ≡ g * gcd (a / g) (b / g) =
    gcd-scaled g (a / g) (b / g) (gcd-positive a b h) in
    let same : gcd (g * (a / g)) (g * (b / g)) ≡ g = ap (λ x. gcd x (g * (b / g))) (gcd_divides-left a b)
    ∙ ap (λ y. gcd a y) (gcd_divides-right a b) in
    eq_of_mul-eq-mul_left g (gcd-positive a b h) (gcd (a / g) (b / g)) 1 (sym scaled ∙ same ∙ omega arith)

-- what divides a product and has no common divisor with one factor divides the other
pub divides_other : (a b c : ℕ) → gcd a b ≡ 1 → b ∣ a * c → b ∣ c
divides_other a b c h d = by c (eq-zero-or-pos c) d
  where
    by : (c : ℕ) → (c ≡ 0) ⊎ (0 < c) → b ∣ a * c → b ∣ c
    by c (inl z) d = subst (λ m. b ∣ m) (sym z) (dvd-zero b)
    by c (inr p) d =
        subst (λ m. b ∣ m) (gcd-scaled c a b p ∙ ap (λ g. c * g) h ∙ omega arith)
        ((gcd_is (c * a) (c * b)).2 b (subst (λ m. b ∣ m) (omega arith) d) (dvd-mul_left b c))

-- lowest terms are unique
pub same_lowest : (a b n d : ℕ) → 0 < b → gcd a b ≡ 1 → gcd n d ≡ 1 → a * d ≡ n * b → (a ≡ n) × (b ≡ d)
same_lowest a b n d h p q e = (
  eq_of_mul-eq-mul_right b h a n (ap (λ x. a * x) same ∙ e),
  same,
)
  where
    same : b ≡ d
    same = dvd_antisymm (divides_other a b d p (subst (λ m. b ∣ m) (sym e) (dvd-mul_left b n)))
        (divides_other n d b q (subst (λ m. d ∣ m) e (dvd-mul_left d a)))
