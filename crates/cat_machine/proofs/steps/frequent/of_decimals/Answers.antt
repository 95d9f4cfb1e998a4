use Rattle.std.proofs.Common.{refl}
use Rattle.cat_num.specs.Frac.{frac_difference, frac_product, frac_quotient, frac_sum}
use Rattle.cat_scope.specs.declared.operators.BinaryOp.TheVariants as binary
use Rattle.cat_machine.proofs.FrequentSteps.{decimal_gives}
use Rattle.cat_machine.proofs.steps.frequent.of_decimals.Goals as goal

pub returns-in-AddDecimals : goal.returns-in-AddDecimals
returns-in-AddDecimals c =
    rw c.in-AddDecimals.is (rw c.frac_in.ensures (rw c.add.ensures
    (decimal_gives binary.AddDecimals frac_sum (λ rounding p v w. refl) c.args.left c.args.right)))

pub returns-in-SubtractDecimals : goal.returns-in-SubtractDecimals
returns-in-SubtractDecimals c =
    rw c.in-SubtractDecimals.is (rw c.frac_in-in-SubtractDecimals.ensures (rw c.sub.ensures
    (decimal_gives binary.SubtractDecimals frac_difference (λ rounding p v w. refl) c.args.left c.args.right)))

pub returns-in-MultiplyDecimals : goal.returns-in-MultiplyDecimals
returns-in-MultiplyDecimals c =
    rw c.in-MultiplyDecimals.is (rw c.frac_in-in-MultiplyDecimals.ensures (rw c.mul.ensures
    (decimal_gives binary.MultiplyDecimals frac_product (λ rounding p v w. refl) c.args.left c.args.right)))

pub returns-in-DivideDecimals : goal.returns-in-DivideDecimals
returns-in-DivideDecimals c =
    rw c.in-DivideDecimals.is (rw c.frac_in-in-DivideDecimals.ensures (rw c.div.ensures
    (decimal_gives binary.DivideDecimals frac_quotient (λ rounding p v w. refl) c.args.left c.args.right)))
