-- Rounding by cases, and that it fits.
use Rattle.std.proofs.Common.{◌≡◌, ◌≢◌, Ok, Err, ◌*ℤ◌, ℕ, zero, suc, ◌+◌, ◌*◌, ◌/◌, ◌<◌, ◌≤◌, ℤ, pos, negsuc, neg_ℤ}
use Rattle.std.proofs.Common.{◌<ℤ◌, unsigned_abs, refl, sym, ap, ◌∙◌, subst, arith}
use Rattle.std.proofs.lemmas.Int.{ints}
use Rattle.std.proofs.Math.Nat.{div-lt_iff_lt-mul, mul-le-mul_left}
use Rattle.std.proofs.lemmas.Bool.Decides.{nat_tests}
use Rattle.cat_num.specs.declared.fault.NumFault.TheVariants.{Overflow}
use Rattle.cat_num.specs.Whole.{Fits, whole_of}
use Rattle.cat_num.specs.Frac.{Fraction, is_negative}
use Rattle.cat_num.specs.Rounding.{rounded, rounded_ratio, money_quotient}
use Rattle.cat_num.proofs.Signs.{unsigned_abs-signed, times_one}

pub rounded_ratio-above : (n d : ℤ) → pos 0 <ℤ d → rounded_ratio n d ≡ whole_of (rounded n (unsigned_abs d))
rounded_ratio-above n (pos zero) h = absurd (omega (arith, ints))
rounded_ratio-above n (pos (suc d)) h = refl
rounded_ratio-above n (negsuc d) h = absurd (omega (arith, ints))

pub rounded_ratio-below : (n d : ℤ) → d <ℤ pos 0 → rounded_ratio n d ≡ whole_of (rounded (neg_ℤ n) (unsigned_abs d))
rounded_ratio-below n (pos d) h = absurd (omega (arith, ints))
rounded_ratio-below n (negsuc d) h = refl

-- a nearest whole number is no further from zero than the numerator
rounded_size : (n d : ℕ) → 0 < d → (2 * n + d) / (2 * d) ≤ n
rounded_size n d h =
    let more : n * 1 ≤ n * d = mul-le-mul_left n h in
    let below = (div-lt_iff_lt-mul {k = 2 * d} {x = 2 * n + d} {y = n + 1} (omega arith)).1 (omega arith) in
    omega arith

pub Fits-rounded : (n : ℤ) (d : ℕ) → 0 < d → Fits n → Fits (rounded n d)
Fits-rounded n d h p =
    let size = unsigned_abs-signed (is_negative n) ((2 * unsigned_abs n + d) / (2 * d)) in
    let small = rounded_size (unsigned_abs n) d h in
    omega arith

pub ruleset by_sign = (rounded_ratio-above, rounded_ratio-below)

whole_of-fits : (n : ℤ) → Fits n → whole_of n ≡ Ok n
whole_of-fits n h = grind (arith, nat_tests)

opposite_fits : (n : ℤ) → Fits n → Fits (neg_ℤ n)
opposite_fits (pos zero) h = h
opposite_fits (pos (suc n)) h = h
opposite_fits (negsuc n) h = h

rounded_ratio-fits : (n d : ℤ) → Fits n → rounded_ratio n d ≢ Err Overflow
rounded_ratio-fits n (pos zero) h e = cc
rounded_ratio-fits n (pos (suc d)) h e = cc (whole_of-fits (rounded n (suc d)) (Fits-rounded n (suc d) (omega arith) h))
rounded_ratio-fits n (negsuc d) h e =
    cc (whole_of-fits (rounded (neg_ℤ n) (suc d)) (Fits-rounded (neg_ℤ n) (suc d) (omega arith) (opposite_fits n h)))

-- an amount over a whole number fits
pub money_quotient-whole : (m : ℤ) (f : Fraction) → Fits m → f.den ≡ 1 → money_quotient m f ≢ Err Overflow
money_quotient-whole m f h w =
    rounded_ratio-fits (m *ℤ pos f.den) f.num (subst Fits (sym (ap (λ d. m *ℤ pos d) w ∙ times_one m)) h)
