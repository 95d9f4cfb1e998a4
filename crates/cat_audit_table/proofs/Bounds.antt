-- The decimals that are written are those with which decimals may be compared.
use Rattle.std.proofs.Common.{◌≡◌, ℕ, zero, suc, ◌+◌, ◌-◌, ◌*◌, ◌/◌, ◌%◌, ◌^◌, ◌<◌, ◌≤◌, ◌==◌, ℤ}
use Rattle.std.proofs.Common.{pos, negsuc, Bool, true}
use Rattle.std.proofs.Common.{IsTrue, refl, sym, ap, ◌∙◌, arith, unsigned_abs}
use Rattle.std.specs.Prelude.{◌&&◌, nat_le, nat_lt, neg_ℤ}
use Rattle.std.proofs.lemmas.Bool.Decides.{nat_tests}
use Rattle.std.proofs.lemmas.Nat.{pow-add}
use Rattle.std.proofs.Math.Nat.{mul-div_cancel', mul-mod_right, lt_of_mul-lt-mul_left, mul_assoc, mul_comm}
use Rattle.cat_num.specs.Whole.{largest}
use Rattle.cat_num.specs.Frac.{Fraction, gcd, is_reduced, frac_negation}
use Rattle.cat_num.specs.Numerals.{Numeral, is_numeral, numeral_value}
use Rattle.cat_num.proofs.Exported.{gcd_is, lowest_parts, value_reduced}
use Rattle.cat_region.specs.Points.{is_bound}
use Rattle.cat_region.proofs.Exported.{le_is, eq_is, and-both, reduced_test}

-- what has at most nine places and nine digits in front of them, in lowest terms
divides : (places g den : ℕ) → places ≤ 9 → g * den ≡ 10 ^ places → 1_000_000_000 % den ≡ 0
divides places g den few e =
    ap (λ (n : ℕ). n % den) whole ∙ mul-mod_right den (g * 10 ^ (9 - places))
  where
    nine : 9 ≡ places + (9 - places)
    nine = omega (arith, few)

    whole : 1_000_000_000 ≡ den * (g * 10 ^ (9 - places))
    whole =
        ap (λ (n : ℕ). 10 ^ n) nine ∙ pow-add 10 places (9 - places)
        ∙ ap (λ (n : ℕ). n * 10 ^ (9 - places)) (sym e ∙ mul_comm g den) ∙ mul_assoc den g (10 ^ (9 - places))

small : (digits places g num den : ℕ) → digits < 10 ^ (9 + places) → g * num ≡ digits → g * den ≡ 10 ^ places
    → num ≤ 1_000_000_000 * den
small digits places g num den few e f = less (lt_of_mul-lt-mul_left g (scaled few))
  where
    less : num < 1_000_000_000 * den → num ≤ 1_000_000_000 * den
    less h = omega (arith, h)

    whole : 10 ^ (9 + places) ≡ g * (1_000_000_000 * den)
    whole =
        pow-add 10 9 places ∙ ap (λ (n : ℕ). 1_000_000_000 * n) (sym f)
        ∙ sym (mul_assoc 1_000_000_000 g den) ∙ ap (λ (n : ℕ). n * den) (mul_comm 1_000_000_000 g)
        ∙ mul_assoc g 1_000_000_000 den

    scaled : digits < 10 ^ (9 + places) → g * num < g * (1_000_000_000 * den)
    scaled h = omega (arith, h, e, whole)

pub numeral_bound : (n : Numeral) → IsTrue (is_numeral n) → is_bound (numeral_value n) ≡ true
numeral_bound n h =
    and-both (is_reduced f && 1_000_000_000 % f.den == 0) (nat_le (unsigned_abs f.num) (1_000_000_000 * f.den))
    (and-both (is_reduced f) (1_000_000_000 % f.den == 0) (reduced_test f (value_reduced n h))
    (eq_is (1_000_000_000 % f.den) 0 (ap (λ (x : Fraction). 1_000_000_000 % x.den) parts
    ∙ divides n.places g (10 ^ n.places / g) few.0 right)))
    (ap (λ (x : Fraction). nat_le (unsigned_abs x.num) (1_000_000_000 * x.den)) parts
    ∙ le_is (n.digits / g) (1_000_000_000 * (10 ^ n.places / g))
    (small n.digits n.places g (n.digits / g) (10 ^ n.places / g) few.1 left right))
  where
    f : Fraction
    f = numeral_value n

    g : ℕ
    g = gcd n.digits (10 ^ n.places)

    few : (n.places ≤ 9) × (n.digits < 10 ^ (9 + n.places))
    few = (grind (arith, nat_tests, h), grind (arith, nat_tests, h))

    parts : f ≡ record { num = pos (n.digits / g); den = 10 ^ n.places / g }
    parts = lowest_parts (pos n.digits) (10 ^ n.places)

    left : g * (n.digits / g) ≡ n.digits
    left = mul-div_cancel' g (gcd_is n.digits (10 ^ n.places)).0

    right : g * (10 ^ n.places / g) ≡ 10 ^ n.places
    right = mul-div_cancel' g (gcd_is n.digits (10 ^ n.places)).1

abs_negated : (n : ℤ) → unsigned_abs (neg_ℤ n) ≡ unsigned_abs n
abs_negated (pos zero) = refl
abs_negated (pos (suc n)) = refl
abs_negated (negsuc n) = refl

abbrev bound_by : ℕ → ℕ → Bool
bound_by size den =
    (nat_lt 0 den && nat_le den largest && nat_le size largest && gcd size den == 1)
    && 1_000_000_000 % den == 0 && nat_le size (1_000_000_000 * den)

pub negated_bound : (f : Fraction) → is_bound f ≡ true → is_bound (frac_negation f) ≡ true
negated_bound f h = ap (λ (size : ℕ). bound_by size f.den) (abs_negated f.num) ∙ h
