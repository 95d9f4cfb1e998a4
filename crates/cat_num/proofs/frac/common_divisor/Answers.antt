use Rattle.std.proofs.Common.{arith}
use Rattle.cat_num.proofs.Gcd.{gcd-zero, gcd-mod}
use Rattle.cat_num.proofs.frac.common_divisor.Goals as goal

pub loop-b-preserved : goal.loop-b-preserved
loop-b-preserved c = grind (arith, gcd-mod)

pub returns : goal.returns
returns c = grind (arith, gcd-zero)
