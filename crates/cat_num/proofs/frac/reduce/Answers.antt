use Rattle.std.proofs.Common.{arith, rules, FitsSigned, w64}
use Rattle.std.proofs.lemmas.Int.{to_z-of_z}
use Rattle.cat_num.proofs.Gcd.{gcd-positive}
use Rattle.cat_num.proofs.Fracs.{ratio-zero, ratio-large_num, ratio-large_den, ratio-fits, lowest_parts}
use Rattle.cat_num.proofs.Fracs.{IsReduced-lowest}
use Rattle.cat_num.proofs.frac.reduce.Goals as goal

pub returns-then-den-eq0 : goal.returns-then-den-eq0
returns-then-den-eq0 c = grind (arith, ratio-zero)

pub nonzero_div-numerator : goal.nonzero_div-numerator
nonzero_div-numerator c = grind (arith, gcd-positive)

pub nonzero_div-denominator : goal.nonzero_div-denominator
nonzero_div-denominator c = grind (arith, gcd-positive)

pub returns-then-numerator-gt-MAX : goal.returns-then-numerator-gt-MAX
returns-then-numerator-gt-MAX c = grind (arith, ratio-large_num, ratio-large_den)

pub invariant_of-result : goal.invariant_of-result
invariant_of-result c = let f : FitsSigned w64 c.with_sign-num.result =
    search rules in rw to_z-of_z (grind (arith, IsReduced-lowest))

pub returns : goal.returns
returns c = let f : FitsSigned w64 c.with_sign-num.result =
    search rules in rw to_z-of_z (grind (arith, ratio-fits, lowest_parts))
