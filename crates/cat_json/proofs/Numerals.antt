-- Numerals, by their parts, and whole numbers as fractions.
use Rattle.std.proofs.Common.{◌≡◌, ℕ, ℤ, pos, unsigned_abs, ◌++◌, List, Ok, refl, ap, arith}
use Rattle.std.proofs.lemmas.Bool.Decides.{nat_tests}
use Rattle.std.proofs.Math.Nat.{mod-one}
use Rattle.cat_num.specs.Whole.{Fits}
use Rattle.cat_num.specs.Frac.{IsReduced, gcd, gcd_to, ratio, frac_of}
use Rattle.cat_num.specs.Reading.{number_after}
use Rattle.cat_num.proofs.Exported.{number_after-append, lowest_is}
use Rattle.cat_json.specs.WholeNumbers.{whole_fraction}

pub number_after-joined : (xs ys : List ℕ) → number_after 0 (xs ++ ys) ≡ number_after (number_after 0 xs) ys
number_after-joined xs ys = number_after-append 0 xs ys

pub ruleset numerals = (number_after-joined)

pub gcd-one : (n : ℕ) → gcd n 1 ≡ 1
unfolding gcd
gcd-one n = ap (gcd_to 1 1) (mod-one n)

one_is_reduced : (n : ℤ) → Fits n → IsReduced n 1
one_is_reduced n h =
    record { positive = omega arith; den_fits = omega arith; num_fits = h; lowest_terms = gcd-one (unsigned_abs n) }

-- a whole number is itself, over 1
pub whole-over_one : (n : ℤ) → Fits n → frac_of n (pos 1) ≡ Ok (whole_fraction n)
unfolding ratio
whole-over_one n h =
    let same = lowest_is (whole_fraction n) n 1 (omega arith) (one_is_reduced n h) refl in
    grind (arith, nat_tests)
