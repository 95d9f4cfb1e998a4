-- Whole results of fractions: each is rounded once, from the exact fraction.
use Rattle.std.specs.Prelude.{ℕ, zero, suc, ◌+◌, ◌*◌, ◌/◌, ℤ, pos, negsuc, neg_ℤ, ◌*ℤ◌, unsigned_abs, Result, Err}
use Rattle.cat_num.specs.declared.fault.NumFault.{NumFault}
use Rattle.cat_num.specs.declared.fault.NumFault.TheVariants.{DivisionByZero}
use Rattle.cat_num.specs.Whole.{whole_of}
use Rattle.cat_num.specs.Frac.{Fraction, is_negative, signed}

-- the whole number nearest to q = n / d, a half away from zero: sign(q) * floor(|q| + 1/2)
abbrev pub rounded : ℤ → ℕ → ℤ
rounded n d = signed (is_negative n) ((2 * unsigned_abs n + d) / (2 * d))

-- n / d toward zero: sign(q) * floor(|q|)
abbrev pub truncated : ℤ → ℕ → ℤ
truncated n d = signed (is_negative n) (unsigned_abs n / d)

-- the whole number nearest to n / d, where it fits
abbrev pub rounded_ratio : ℤ → ℤ → Result ℤ NumFault
rounded_ratio n (pos zero) = Err DivisionByZero
rounded_ratio n (pos (suc d)) = whole_of (rounded n (suc d))
rounded_ratio n (negsuc d) = whole_of (rounded (neg_ℤ n) (suc d))

-- m * f, to the nearest cent
abbrev pub money_product : ℤ → Fraction → Result ℤ NumFault
money_product m f = whole_of (rounded (m *ℤ f.num) f.den)

-- m / f, to the nearest cent
abbrev pub money_quotient : ℤ → Fraction → Result ℤ NumFault
money_quotient m f = rounded_ratio (m *ℤ pos f.den) f.num

-- m cents to the nearest unit of 100 cents
abbrev pub whole_units : ℤ → ℤ
whole_units m = rounded m 100 *ℤ pos 100
