-- The operators and the roundings by their numbers.
use Rattle.std.specs.Prelude.{ℕ, zero, suc, List, [], ◌∷◌, Option, None, slice_get}
use Rattle.cat_date.specs.declared.rounding.Rounding.{Rounding}
use Rattle.cat_date.specs.declared.rounding.Rounding.TheVariants as rounding
use Rattle.cat_scope.specs.declared.operators.UnaryOp.{UnaryOp}
use Rattle.cat_scope.specs.declared.operators.UnaryOp.TheVariants as unary
use Rattle.cat_scope.specs.declared.operators.BinaryOp.{BinaryOp}
use Rattle.cat_scope.specs.declared.operators.BinaryOp.TheVariants as binary

-- an operator before one operand, or between two
pub data Operation : Type 0 where
  Before : UnaryOp → Operation
  Between : BinaryOp → Operation

-- the operators from number 1 on
abbrev pub operations : List Operation
operations =
    Between binary.AddIntegers ∷ Between binary.SubtractIntegers ∷ Between binary.MultiplyIntegers
    ∷ Between binary.DivideIntegers
    ∷ Between binary.AddDecimals ∷ Between binary.SubtractDecimals ∷ Between binary.MultiplyDecimals
    ∷ Between binary.DivideDecimals
    ∷ Between binary.AddMoney ∷ Between binary.SubtractMoney
    ∷ Between binary.MultiplyMoneyByDecimal ∷ Between binary.MultiplyDecimalByMoney
    ∷ Between binary.MultiplyMoneyByInteger ∷ Between binary.MultiplyIntegerByMoney
    ∷ Between binary.DivideMoneyByDecimal ∷ Between binary.DivideMoneyByInteger ∷ Between binary.DivideMoney
    ∷ Between binary.AddDurationToDate ∷ Between binary.SubtractDurationFromDate ∷ Between binary.SubtractDates
    ∷ Between binary.AddDurations ∷ Between binary.SubtractDurations ∷ Between binary.MultiplyDurationByInteger
    ∷ Before unary.NegateInteger ∷ Before unary.NegateDecimal ∷ Before unary.NegateMoney ∷ Before unary.NegateDuration
    ∷ Before unary.Not ∷ Between binary.Xor
    ∷ Between binary.Less ∷ Between binary.AtMost ∷ Between binary.Greater ∷ Between binary.AtLeast
    ∷ Between binary.Equal ∷ Between binary.Unequal
    ∷ Before unary.IntegerOfDecimal ∷ Before unary.DecimalOfInteger ∷ Before unary.DecimalOfMoney
    ∷ Before unary.MoneyOfDecimal ∷ Before unary.MoneyOfInteger ∷ Before unary.RoundDecimal ∷ Before unary.RoundMoney
    ∷ Before unary.YearOfDate ∷ Before unary.MonthOfDate ∷ Before unary.DayOfDate ∷ []

-- the operator of a number
abbrev pub operation : ℕ → Option Operation
operation zero = None
operation (suc n) = slice_get operations n

-- what becomes of a day that its month lacks, from number 0 on
abbrev pub roundings : List Rounding
roundings = rounding.Refuse ∷ rounding.Up ∷ rounding.Down ∷ []
