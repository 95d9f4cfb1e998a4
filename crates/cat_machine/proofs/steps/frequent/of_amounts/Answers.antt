use Rattle.std.proofs.Common.{refl}
use Rattle.cat_num.specs.Whole.{whole_difference, whole_sum}
use Rattle.cat_scope.specs.declared.operators.BinaryOp.TheVariants as binary
use Rattle.cat_machine.proofs.FrequentSteps.{amounts_compared, money_gives}
use Rattle.cat_machine.proofs.steps.frequent.of_amounts.Goals as goal

pub returns-in-AddMoney : goal.returns-in-AddMoney
returns-in-AddMoney c =
    rw c.in-AddMoney.is (rw c.money_in.ensures (rw c.add.ensures
    (money_gives binary.AddMoney whole_sum (λ rounding p v w. refl) c.args.left c.args.right)))

pub returns-in-SubtractMoney : goal.returns-in-SubtractMoney
returns-in-SubtractMoney c =
    rw c.in-SubtractMoney.is (rw c.money_in-in-SubtractMoney.ensures (rw c.sub.ensures
    (money_gives binary.SubtractMoney whole_difference (λ rounding p v w. refl) c.args.left c.args.right)))

pub returns-in_default : goal.returns-in_default
returns-in_default c =
    amounts_compared c.args.op c.args.left c.args.right c.by_order.result (rw c.cmp.ensures at c.by_order.ensures)
