-- The number of each operator and of each rounding.
use Rattle.std.specs.Prelude.{ℕ}
use Rattle.cat_date.specs.declared.rounding.Rounding.{Rounding}
use Rattle.cat_date.specs.declared.rounding.Rounding.TheVariants as rounding
use Rattle.cat_scope.specs.declared.operators.UnaryOp.{UnaryOp}
use Rattle.cat_scope.specs.declared.operators.UnaryOp.TheVariants as unary
use Rattle.cat_scope.specs.declared.operators.BinaryOp.{BinaryOp}
use Rattle.cat_scope.specs.declared.operators.BinaryOp.TheVariants as binary

-- of an operator before one operand
abbrev pub number_before : UnaryOp → ℕ
number_before unary.NegateInteger = 24
number_before unary.NegateDecimal = 25
number_before unary.NegateMoney = 26
number_before unary.NegateDuration = 27
number_before unary.Not = 28
number_before unary.IntegerOfDecimal = 36
number_before unary.DecimalOfInteger = 37
number_before unary.DecimalOfMoney = 38
number_before unary.MoneyOfDecimal = 39
number_before unary.MoneyOfInteger = 40
number_before unary.RoundDecimal = 41
number_before unary.RoundMoney = 42
number_before unary.YearOfDate = 43
number_before unary.MonthOfDate = 44
number_before unary.DayOfDate = 45

-- of an operator between two operands
abbrev pub number_between : BinaryOp → ℕ
number_between binary.AddIntegers = 1
number_between binary.SubtractIntegers = 2
number_between binary.MultiplyIntegers = 3
number_between binary.DivideIntegers = 4
number_between binary.AddDecimals = 5
number_between binary.SubtractDecimals = 6
number_between binary.MultiplyDecimals = 7
number_between binary.DivideDecimals = 8
number_between binary.AddMoney = 9
number_between binary.SubtractMoney = 10
number_between binary.MultiplyMoneyByDecimal = 11
number_between binary.MultiplyDecimalByMoney = 12
number_between binary.MultiplyMoneyByInteger = 13
number_between binary.MultiplyIntegerByMoney = 14
number_between binary.DivideMoneyByDecimal = 15
number_between binary.DivideMoneyByInteger = 16
number_between binary.DivideMoney = 17
number_between binary.AddDurationToDate = 18
number_between binary.SubtractDurationFromDate = 19
number_between binary.SubtractDates = 20
number_between binary.AddDurations = 21
number_between binary.SubtractDurations = 22
number_between binary.MultiplyDurationByInteger = 23
number_between binary.Xor = 29
number_between binary.Less = 30
number_between binary.AtMost = 31
number_between binary.Greater = 32
number_between binary.AtLeast = 33
number_between binary.Equal = 34
number_between binary.Unequal = 35

-- of what becomes of a day that its month lacks
abbrev pub rounding_number : Rounding → ℕ
rounding_number rounding.Refuse = 0
rounding_number rounding.Up = 1
rounding_number rounding.Down = 2
