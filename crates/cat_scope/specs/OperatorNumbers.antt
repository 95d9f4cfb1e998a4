-- The number of each operator.
use Rattle.std.specs.Prelude.{ℕ}
use Rattle.cat_scope.specs.declared.operators.UnaryOp.{UnaryOp}
use Rattle.cat_scope.specs.declared.operators.UnaryOp.TheVariants as unary
use Rattle.cat_scope.specs.declared.operators.BinaryOp.{BinaryOp}
use Rattle.cat_scope.specs.declared.operators.BinaryOp.TheVariants as binary
use Rattle.cat_scope.specs.declared.operators.SumKind.{SumKind}
use Rattle.cat_scope.specs.declared.operators.SumKind.TheVariants as sum

-- the number of an operator before one operand
abbrev pub unary_number : UnaryOp → ℕ
unary_number unary.NegateInteger = 0
unary_number unary.NegateDecimal = 1
unary_number unary.NegateMoney = 2
unary_number unary.NegateDuration = 3
unary_number unary.Not = 4
unary_number unary.IntegerOfDecimal = 5
unary_number unary.DecimalOfInteger = 6
unary_number unary.DecimalOfMoney = 7
unary_number unary.MoneyOfDecimal = 8
unary_number unary.MoneyOfInteger = 9
unary_number unary.RoundDecimal = 10
unary_number unary.RoundMoney = 11
unary_number unary.YearOfDate = 12
unary_number unary.MonthOfDate = 13
unary_number unary.DayOfDate = 14

-- the number of an operator between two operands
abbrev pub binary_number : BinaryOp → ℕ
binary_number binary.AddIntegers = 0
binary_number binary.SubtractIntegers = 1
binary_number binary.MultiplyIntegers = 2
binary_number binary.DivideIntegers = 3
binary_number binary.AddDecimals = 4
binary_number binary.SubtractDecimals = 5
binary_number binary.MultiplyDecimals = 6
binary_number binary.DivideDecimals = 7
binary_number binary.AddMoney = 8
binary_number binary.SubtractMoney = 9
binary_number binary.MultiplyMoneyByDecimal = 10
binary_number binary.MultiplyDecimalByMoney = 11
binary_number binary.MultiplyMoneyByInteger = 12
binary_number binary.MultiplyIntegerByMoney = 13
binary_number binary.DivideMoneyByDecimal = 14
binary_number binary.DivideMoneyByInteger = 15
binary_number binary.DivideMoney = 16
binary_number binary.AddDurationToDate = 17
binary_number binary.SubtractDurationFromDate = 18
binary_number binary.SubtractDates = 19
binary_number binary.AddDurations = 20
binary_number binary.SubtractDurations = 21
binary_number binary.MultiplyDurationByInteger = 22
binary_number binary.Xor = 23
binary_number binary.Less = 24
binary_number binary.AtMost = 25
binary_number binary.Greater = 26
binary_number binary.AtLeast = 27
binary_number binary.Equal = 28
binary_number binary.Unequal = 29

-- the number of what is summed
abbrev pub sum_number : SumKind → ℕ
sum_number sum.Integers = 0
sum_number sum.Decimals = 1
sum_number sum.Money = 2
sum_number sum.Durations = 3
