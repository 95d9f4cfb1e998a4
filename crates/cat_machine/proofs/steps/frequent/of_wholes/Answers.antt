use Rattle.std.proofs.Common.{refl}
use Rattle.cat_num.specs.Whole.{whole_difference, whole_product, whole_sum}
use Rattle.cat_scope.specs.declared.operators.BinaryOp.TheVariants as binary
use Rattle.cat_machine.proofs.FrequentSteps.{whole_gives, wholes_compared}
use Rattle.cat_machine.proofs.steps.frequent.of_wholes.Goals as goal

pub returns-in-AddIntegers : goal.returns-in-AddIntegers
returns-in-AddIntegers c =
    rw c.in-AddIntegers.is (rw c.whole_in.ensures (rw c.add.ensures
    (whole_gives binary.AddIntegers whole_sum (λ rounding p v w. refl) c.args.left c.args.right)))

pub returns-in-SubtractIntegers : goal.returns-in-SubtractIntegers
returns-in-SubtractIntegers c =
    rw c.in-SubtractIntegers.is (rw c.whole_in-in-SubtractIntegers.ensures (rw c.sub.ensures
    (whole_gives binary.SubtractIntegers whole_difference (λ rounding p v w. refl) c.args.left c.args.right)))

pub returns-in-MultiplyIntegers : goal.returns-in-MultiplyIntegers
returns-in-MultiplyIntegers c =
    rw c.in-MultiplyIntegers.is (rw c.whole_in-in-MultiplyIntegers.ensures (rw c.mul.ensures
    (whole_gives binary.MultiplyIntegers whole_product (λ rounding p v w. refl) c.args.left c.args.right)))

pub returns-in_default : goal.returns-in_default
returns-in_default c =
    wholes_compared c.args.op c.args.left c.args.right c.by_order.result (rw c.cmp.ensures at c.by_order.ensures)
