-- Worked examples of the words, by computation.
use Rattle.std.proofs.Common.{◌≡◌, ℕ, ◌^◌, ℤ, pos, negsuc, Ok, Err, refl}
use Rattle.std.specs.Prelude.{codes}
use Rattle.std.specs.Fmt.{digits}
use Rattle.std.specs.declared.cmp.Ordering.TheVariants.{Less}
use Rattle.cat_num.specs.declared.fault.NumFault.TheVariants.{Overflow, DivisionByZero}
use Rattle.cat_num.specs.Whole.{largest, whole_sum, whole_difference, whole_product}
use Rattle.cat_num.specs.Frac.{Fraction, gcd, lowest, ratio, frac_of, frac_sum, frac_difference, frac_product}
use Rattle.cat_num.specs.Frac.{frac_quotient, frac_order}
use Rattle.cat_num.specs.Rounding.{rounded, truncated, money_product, money_quotient, whole_units}
use Rattle.cat_num.specs.Text.{decimal_places, decimal_bytes, money_bytes}
use Rattle.cat_num.specs.Reading.{read_fraction}

abbrev over : ℤ → ℕ → Fraction
over n d = record { num = n; den = d }

-- whole numbers: M - 1, M + 1, 2^31 * 2^32
whole_sum-fits : whole_sum (pos largest) (negsuc 0) ≡ Ok (pos 9223372036854775806)
whole_sum-fits = refl

whole_sum-large : whole_sum (pos largest) (pos 1) ≡ Err Overflow
whole_sum-large = refl

whole_difference-large : whole_difference (negsuc 9223372036854775806) (pos 1) ≡ Err Overflow
whole_difference-large = refl

whole_product-large : whole_product (pos (2 ^ 31)) (pos (2 ^ 32)) ≡ Err Overflow
whole_product-large = refl

-- 6 / -4 = -3/2, 1 / 0
frac_of-sign : frac_of (pos 6) (negsuc 3) ≡ Ok (over (negsuc 2) 2)
unfolding ratio lowest gcd
frac_of-sign = refl

frac_of-zero : frac_of (pos 1) (pos 0) ≡ Err DivisionByZero
unfolding ratio
frac_of-zero = refl

-- 1/6 + 1/3 = 1/2, 1/M + 1/M = 2/M, 1/M + 1/(M - 1) is too fine, 1/2 - 1/2 = 0/1
frac_sum-sixths : frac_sum (over (pos 1) 6) (over (pos 1) 3) ≡ Ok (over (pos 1) 2)
unfolding ratio lowest gcd
frac_sum-sixths = refl

frac_sum-unreduced : frac_sum (over (pos 1) largest) (over (pos 1) largest) ≡ Ok (over (pos 2) largest)
unfolding ratio lowest gcd
frac_sum-unreduced = refl

frac_sum-fine : frac_sum (over (pos 1) largest) (over (pos 1) 9223372036854775806) ≡ Err Overflow
unfolding ratio lowest gcd
frac_sum-fine = refl

frac_difference-same : frac_difference (over (pos 1) 2) (over (pos 1) 2) ≡ Ok (over (pos 0) 1)
unfolding ratio lowest gcd
frac_difference-same = refl

-- M/2 * 2/M = 1, (1/2) / (-3/4) = -2/3, (1/2) / 0
frac_product-cancels : frac_product (over (pos largest) 2) (over (pos 2) largest) ≡ Ok (over (pos 1) 1)
unfolding ratio lowest gcd
frac_product-cancels = refl

frac_quotient-sign : frac_quotient (over (pos 1) 2) (over (negsuc 2) 4) ≡ Ok (over (negsuc 1) 3)
unfolding ratio lowest gcd
frac_quotient-sign = refl

frac_quotient-zero : frac_quotient (over (pos 1) 2) (over (pos 0) 1) ≡ Err DivisionByZero
unfolding ratio
frac_quotient-zero = refl

-- -1/2 < -1/3, M/(M - 1) < (M - 1)/(M - 2)
frac_order-negative : frac_order (over (negsuc 0) 2) (over (negsuc 0) 3) ≡ Less
frac_order-negative = refl

frac_order-close : frac_order (over (pos largest) 9223372036854775806)
    (over (pos 9223372036854775806) 9223372036854775805) ≡ Less
frac_order-close = refl

-- halves go away from zero, and toward zero by `truncated`
rounded-halves : rounded (negsuc 4) 2 ≡ negsuc 2
rounded-halves = refl

truncated-halves : truncated (negsuc 4) 2 ≡ negsuc 1
truncated-halves = refl

-- 1 cent * 1/2 = 1 cent, -1 cent * 1/2 = -1 cent, 1 cent / -3 = 0, M cents / 1/2 is too large
money_product-half : money_product (pos 1) (over (pos 1) 2) ≡ Ok (pos 1)
money_product-half = refl

money_product-negative : money_product (negsuc 0) (over (pos 1) 2) ≡ Ok (negsuc 0)
money_product-negative = refl

money_quotient-third : money_quotient (pos 1) (over (negsuc 2) 1) ≡ Ok (pos 0)
money_quotient-third = refl

money_quotient-large : money_quotient (pos largest) (over (pos 1) 2) ≡ Err Overflow
money_quotient-large = refl

money_quotient-zero : money_quotient (pos 1) (over (pos 0) 1) ≡ Err DivisionByZero
money_quotient-zero = refl

whole_units-half : whole_units (negsuc 149) ≡ negsuc 199
whole_units-half = refl

-- `1/3`, `3`, `-0.25`, `0.000000001` and `-0.05`, and back
decimal_bytes-third : decimal_bytes (over (pos 1) 3) ≡ codes "1/3"
unfolding decimal_bytes decimal_places digits
decimal_bytes-third = refl

decimal_bytes-whole : decimal_bytes (over (pos 3) 1) ≡ codes "3"
unfolding decimal_bytes decimal_places digits
decimal_bytes-whole = refl

decimal_bytes-quarter : decimal_bytes (over (negsuc 0) 4) ≡ codes "-0.25"
unfolding decimal_bytes decimal_places digits
decimal_bytes-quarter = refl

decimal_bytes-ninth_place : decimal_bytes (over (pos 1) (10 ^ 9)) ≡ codes "0.000000001"
unfolding decimal_bytes decimal_places digits
decimal_bytes-ninth_place = refl

money_bytes-cents : money_bytes (negsuc 4) ≡ codes "-0.05"
unfolding money_bytes digits
money_bytes-cents = refl

read_fraction-decimal : read_fraction (codes "-0.25") ≡ Ok (over (negsuc 0) 4)
unfolding read_fraction ratio lowest gcd
read_fraction-decimal = refl
