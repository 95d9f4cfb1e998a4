-- The values of decimals as they are written.
use Rattle.std.proofs.Common.{ℕ, ◌+◌, ◌/◌, ◌^◌, ◌<◌, ◌≤◌, arith, pos, IsTrue, subst, sym}
use Rattle.std.proofs.lemmas.Bool.Decides.{nat_tests}
use Rattle.std.proofs.Math.Nat.{one-le-pow, pow-le-pow_right, div-le_self}
use Rattle.cat_num.specs.Frac.{Fraction, IsReduced, gcd, is_negative, signed}
use Rattle.cat_num.specs.Numerals.{Numeral, IsNumeral, is_numeral, numeral_value}
use Rattle.cat_num.proofs.Fracs.{IsReduced-lowest, lowest_parts}

-- there are at most 18 digits
pub few_digits : (digits places : ℕ) → IsNumeral digits places → digits < 1_000_000_000_000_000_000
few_digits digits places h =
    let few : 9 + places ≤ 18 = omega (arith, h.few_places) in
    let most = pow-le-pow_right {n = 10} (omega arith) few in
    omega (arith, most, h.few_digits)

-- once it is reduced, the value fits
pub numeral_reduced : (digits places : ℕ) → IsNumeral digits places
    → IsReduced (signed (is_negative (pos digits)) (digits / gcd digits (10 ^ places)))
    (10 ^ places / gcd digits (10 ^ places))
numeral_reduced digits places h =
    let low = one-le-pow places 10 (omega arith) in
    let high = pow-le-pow_right {n = 10} (omega arith) h.few_places in
    IsReduced-lowest (pos digits) (10 ^ places) (omega (arith, low))
    (omega (arith, div-le_self digits (gcd digits (10 ^ places)), few_digits digits places h))
    (omega (arith, div-le_self (10 ^ places) (gcd digits (10 ^ places)), high))

-- the same of a numeral
pub value_reduced : (n : Numeral) → IsTrue (is_numeral n) → IsReduced (numeral_value n).num (numeral_value n).den
value_reduced n h =
    let is : IsNumeral n.digits n.places =
    record { few_places = grind (arith, nat_tests); few_digits = grind (arith, nat_tests) } in
    subst (λ (f : Fraction). IsReduced f.num f.den) (sym (lowest_parts (pos n.digits) (10 ^ n.places)))
    (numeral_reduced n.digits n.places is)
