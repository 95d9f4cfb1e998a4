use Rattle.std.proofs.Common.{rules, ◌≡◌, ◌/◌, arith, pos, to_z, w64}
use Rattle.std.proofs.lemmas.Int.{to_z_pos}
use Rattle.std.proofs.Math.Nat.{one-le-pow, div-le_self}
use Rattle.cat_num.proofs.Gcd.{gcd-positive}
use Rattle.cat_num.proofs.Fracs.{lowest_parts}
use Rattle.cat_num.proofs.Numerals.{few_digits, numeral_reduced}
use Rattle.cat_num.proofs.frac.frac_of_decimal.Goals as goal

pub nonzero_div-result : goal.nonzero_div-result
nonzero_div-result c = let h = one-le-pow c.args.literal.places 10 (omega arith) in grind (arith, gcd-positive)

pub nonzero_div-result-2 : goal.nonzero_div-result-2
nonzero_div-result-2 c = let h = one-le-pow c.args.literal.places 10 (omega arith) in grind (arith, gcd-positive)

pub overflow_cast-result : goal.overflow_cast-result
overflow_cast-result c =
    let few = few_digits c.args.literal.digits c.args.literal.places c.digits-digits.ensures.bounded in
    let size = div-le_self c.digits-digits.result c.common_divisor-divisor.result in
    grind arith

pub invariant_of-result : goal.invariant_of-result
invariant_of-result c =
    let few = few_digits c.args.literal.digits c.args.literal.places c.digits-digits.ensures.bounded in
    let size = div-le_self c.digits-digits.result c.common_divisor-divisor.result in
    let narrow : to_z w64 (c.digits-digits.result / c.common_divisor-divisor.result) ≡ pos
    (c.digits-digits.result / c.common_divisor-divisor.result) = to_z_pos w64 _ (grind arith) in
    let reduced = numeral_reduced c.args.literal.digits c.args.literal.places c.digits-digits.ensures.bounded in
    rw narrow (search rules)

pub returns : goal.returns
returns c =
    let few = few_digits c.args.literal.digits c.args.literal.places c.digits-digits.ensures.bounded in
    let size = div-le_self c.digits-digits.result c.common_divisor-divisor.result in
    let narrow : to_z w64 (c.digits-digits.result / c.common_divisor-divisor.result) ≡ pos
    (c.digits-digits.result / c.common_divisor-divisor.result) = to_z_pos w64 _ (grind arith) in
    rw narrow (grind (arith, lowest_parts))
