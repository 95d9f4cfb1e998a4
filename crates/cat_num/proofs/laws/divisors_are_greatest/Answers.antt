use Rattle.cat_num.proofs.Gcd.{gcd_is}
use Rattle.cat_num.proofs.laws.divisors_are_greatest.Goals as goal

pub returns : goal.returns
returns c = gcd_is
