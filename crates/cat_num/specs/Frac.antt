-- Fractions in lowest terms: exact results, where they fit.
use Rattle.std.specs.Prelude.{◌≡◌, ℕ, zero, suc, ◌+◌, ◌*◌, ◌/◌, ◌%◌, ◌<◌, ◌≤◌, ◌==◌, ℤ, pos, negsuc, neg_ℤ, ◌+ℤ◌, ◌-ℤ◌}
use Rattle.std.specs.Prelude.{◌*ℤ◌, unsigned_abs, Bool, true, false, ◌&&◌, nat_le, nat_lt, if◌then◌else◌, Result, Ok}
use Rattle.std.specs.Prelude.{Err}
use Rattle.std.specs.declared.cmp.Ordering.{Ordering}
use Rattle.std.specs.Ordering.{int_cmp}
use Rattle.cat_num.specs.declared.fault.NumFault.{NumFault}
use Rattle.cat_num.specs.declared.fault.NumFault.TheVariants.{Overflow, DivisionByZero}
use Rattle.cat_num.specs.Whole.{largest, fits}

-- a fraction, as contracts see it: num / den
pub record Fraction : Type 0 where
  pub num : ℤ
  pub den : ℕ

-- Euclid's steps, at most k of them
abbrev pub gcd_to : ℕ → ℕ → ℕ → ℕ
gcd_to zero a b = a
gcd_to (suc k) a zero = a
gcd_to (suc k) a (suc b) = gcd_to k (suc b) (a % suc b)

-- the greatest common divisor
unfoldable pub gcd : ℕ → ℕ → ℕ
gcd a b = gcd_to (b + 1) a b

-- n < 0
abbrev pub is_negative : ℤ → Bool
is_negative (pos n) = false
is_negative (negsuc n) = true

-- the number of size n, with a sign
abbrev pub signed : Bool → ℕ → ℤ
signed true n = neg_ℤ (pos n)
signed false n = pos n

-- n / d in lowest terms
unfoldable pub lowest : ℤ → ℕ → Fraction
lowest n d =
    record { num = signed (is_negative n) (unsigned_abs n / gcd (unsigned_abs n) d); den = d / gcd (unsigned_abs n) d }

-- both parts fit
abbrev pub frac_fits : Fraction → Bool
frac_fits f = fits f.num && nat_le f.den largest

-- the fraction n / d, where it fits once it is in lowest terms
unfoldable pub ratio : ℤ → ℕ → Result Fraction NumFault
ratio n d = if d == 0 then Err DivisionByZero else (if frac_fits (lowest n d) then Ok (lowest n d) else Err Overflow)

-- the same for a divisor with a sign
abbrev pub frac_of : ℤ → ℤ → Result Fraction NumFault
frac_of n (pos d) = ratio n d
frac_of n (negsuc d) = ratio (neg_ℤ n) (suc d)

-- f + g
abbrev pub frac_sum : Fraction → Fraction → Result Fraction NumFault
frac_sum f g = ratio (f.num *ℤ pos g.den +ℤ g.num *ℤ pos f.den) (f.den * g.den)

-- f - g
abbrev pub frac_difference : Fraction → Fraction → Result Fraction NumFault
frac_difference f g = ratio (f.num *ℤ pos g.den -ℤ g.num *ℤ pos f.den) (f.den * g.den)

-- f * g
abbrev pub frac_product : Fraction → Fraction → Result Fraction NumFault
frac_product f g = ratio (f.num *ℤ g.num) (f.den * g.den)

-- f / g
abbrev pub frac_quotient : Fraction → Fraction → Result Fraction NumFault
frac_quotient f g = frac_of (f.num *ℤ pos g.den) (g.num *ℤ pos f.den)

-- -f
abbrev pub frac_negation : Fraction → Fraction
frac_negation f = record { num = neg_ℤ f.num; den = f.den }

-- the order of the rationals, by cross products
abbrev pub frac_order : Fraction → Fraction → Ordering
frac_order f g = int_cmp (f.num *ℤ pos g.den) (g.num *ℤ pos f.den)

-- in lowest terms, with a positive denominator, and both parts fit
pub record IsReduced (num : ℤ) (den : ℕ) : Type 0 where
  pub positive : 0 < den
  pub den_fits : den ≤ largest
  pub num_fits : unsigned_abs num ≤ largest
  pub lowest_terms : gcd (unsigned_abs num) den ≡ 1

-- the same, as a test
abbrev pub is_reduced : Fraction → Bool
is_reduced f = nat_lt 0 f.den && nat_le f.den largest && fits f.num && gcd (unsigned_abs f.num) f.den == 1
