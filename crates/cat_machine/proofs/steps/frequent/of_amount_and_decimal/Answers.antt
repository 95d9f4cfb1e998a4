use Rattle.std.proofs.Common.{refl}
use Rattle.cat_num.specs.Rounding.{money_product}
use Rattle.cat_scope.specs.declared.operators.BinaryOp.TheVariants as binary
use Rattle.cat_machine.proofs.FrequentSteps.{part_gives}
use Rattle.cat_machine.proofs.steps.frequent.of_amount_and_decimal.Goals as goal

pub returns-in-MultiplyMoneyByDecimal : goal.returns-in-MultiplyMoneyByDecimal
returns-in-MultiplyMoneyByDecimal c =
    rw c.in-MultiplyMoneyByDecimal.is (rw c.money_in.ensures (rw c.money_times.ensures
    (part_gives binary.MultiplyMoneyByDecimal money_product (λ rounding p v w. refl) c.args.left c.args.right)))
