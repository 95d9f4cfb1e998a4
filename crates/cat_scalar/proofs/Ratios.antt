-- Fractions over one and over a hundred, and years of days.
use Rattle.std.proofs.Common.{◌≡◌, ℕ, ℤ, pos, negsuc, ◌*ℤ◌, ◌≤ℤ◌, ◌%◌, ◌/◌, unsigned_abs, Ok, Err, refl}
use Rattle.std.proofs.Common.{arith, ap, ◌∙◌, FitsSigned, w64}
use Rattle.std.proofs.Math.IntN.{*ℤ-one, one}
use Rattle.jiff_core.proofs.SignedLemmas.{one_part, signed_arith}
use Rattle.cat_num.specs.declared.fault.NumFault.TheVariants.{Overflow}
use Rattle.cat_num.specs.Whole.{Fits}
use Rattle.cat_num.specs.Frac.{gcd, gcd_to, is_negative, signed, ratio, lowest}
use Rattle.cat_num.specs.Rounding.{money_quotient, rounded_ratio}
use Rattle.cat_date.specs.Calendar.{IsDay, civil_of}
use Rattle.cat_date.proofs.Exported.{civil_of-IsDateOf}
use Rattle.cat_scope.specs.Operators.{over_one}

mod_one : (a : ℕ) → a % 1 ≡ 0
mod_one a = omega arith

div_one : (a : ℕ) → a / 1 ≡ a
div_one a = omega arith

gcd_one : (a : ℕ) → gcd a 1 ≡ 1
unfolding gcd
gcd_one a = ap (gcd_to 1 1) (mod_one a)

signed_itself : (n : ℤ) → signed (is_negative n) (unsigned_abs n) ≡ n
signed_itself (pos n) = refl
signed_itself (negsuc n) = refl

lowest_one : (n : ℤ) → lowest n 1 ≡ over_one n
unfolding lowest
lowest_one n =
    ap (λ (g : ℕ). record { num = signed (is_negative n) (unsigned_abs n / g); den = 1 / g }) (gcd_one (unsigned_abs n))
    ∙ ap (λ (m : ℕ). record { num = signed (is_negative n) m; den = 1 }) (div_one (unsigned_abs n))
    ∙ ap (λ (z : ℤ). record { num = z; den = 1 }) (signed_itself n)

pub ratio_hundred : (n : ℤ) → (ratio n 100 ≡ Err Overflow → ⊥) → ratio n 100 ≡ Ok (lowest n 100)
unfolding ratio
ratio_hundred n fits = grind (arith, fits)

ratio_lowest : (n : ℤ) → (ratio n 1 ≡ Err Overflow → ⊥) → ratio n 1 ≡ Ok (lowest n 1)
unfolding ratio
ratio_lowest n fits = grind (arith, fits)

pub ratio_one : (n : ℤ) → (ratio n 1 ≡ Err Overflow → ⊥) → ratio n 1 ≡ Ok (over_one n)
ratio_one n fits = ratio_lowest n fits ∙ ap Ok (lowest_one n)

times_one : (m : ℤ) → m *ℤ pos 1 ≡ m
unfolding one
times_one m = *ℤ-one m

pub quotient_one : (m n : ℤ) → money_quotient m (over_one n) ≡ rounded_ratio m n
quotient_one m n = ap (λ (x : ℤ). rounded_ratio x n) (times_one m)

within : (z : ℤ) → pos 1 ≤ℤ z → FitsSigned w64 z → Fits z
within z above fits = omega (arith, signed_arith, one_part z)

pub year_fits : (n : ℤ) → IsDay n → FitsSigned w64 (civil_of n).year → Fits (civil_of n).year
year_fits n h fits = within (civil_of n).year (civil_of-IsDateOf n h).first fits
