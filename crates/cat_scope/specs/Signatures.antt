-- The operator table: which types each operator takes, and of which type its result is.
use Rattle.std.specs.Prelude.{List, [], ◌∷◌, map}
use Rattle.cat_value.specs.declared.ty.Ty.{Ty}
use Rattle.cat_value.specs.declared.ty.Ty.TheVariants.{Boolean, Integer, Decimal, Money, Date, Duration}
use Rattle.cat_scope.specs.declared.operators.UnaryOp.{UnaryOp}
use Rattle.cat_scope.specs.declared.operators.UnaryOp.TheVariants as unary
use Rattle.cat_scope.specs.declared.operators.BinaryOp.{BinaryOp}
use Rattle.cat_scope.specs.declared.operators.BinaryOp.TheVariants as binary
use Rattle.cat_scope.specs.declared.operators.SumKind.{SumKind}
use Rattle.cat_scope.specs.declared.operators.SumKind.TheVariants as sum

-- a signature: the types of the left and of the right operand, and that of the result
pub record Signature : Type 0 where
  pub left : Ty
  pub right : Ty
  pub result : Ty

-- the one signature of an operator
abbrev pub signature : Ty → Ty → Ty → List Signature
signature left right result = record { left = left; right = right; result = result } ∷ []

-- two operands of one type, and a truth value
abbrev pub comparison : Ty → Signature
comparison t = record { left = t; right = t; result = Boolean }

-- the types that have an order, and those that have an equality
abbrev pub ordered_types : List Ty
ordered_types = Integer ∷ Decimal ∷ Money ∷ Date ∷ Duration ∷ []

-- the types that have an equality: a boolean too
abbrev pub compared_types : List Ty
compared_types = Boolean ∷ ordered_types

-- the signatures of an operator between two operands
abbrev pub signatures_of : BinaryOp → List Signature
signatures_of binary.AddIntegers = signature Integer Integer Integer
signatures_of binary.SubtractIntegers = signature Integer Integer Integer
signatures_of binary.MultiplyIntegers = signature Integer Integer Integer
signatures_of binary.DivideIntegers = signature Integer Integer Decimal
signatures_of binary.AddDecimals = signature Decimal Decimal Decimal
signatures_of binary.SubtractDecimals = signature Decimal Decimal Decimal
signatures_of binary.MultiplyDecimals = signature Decimal Decimal Decimal
signatures_of binary.DivideDecimals = signature Decimal Decimal Decimal
signatures_of binary.AddMoney = signature Money Money Money
signatures_of binary.SubtractMoney = signature Money Money Money
signatures_of binary.MultiplyMoneyByDecimal = signature Money Decimal Money
signatures_of binary.MultiplyDecimalByMoney = signature Decimal Money Money
signatures_of binary.MultiplyMoneyByInteger = signature Money Integer Money
signatures_of binary.MultiplyIntegerByMoney = signature Integer Money Money
signatures_of binary.DivideMoneyByDecimal = signature Money Decimal Money
signatures_of binary.DivideMoneyByInteger = signature Money Integer Money
signatures_of binary.DivideMoney = signature Money Money Decimal
signatures_of binary.AddDurationToDate = signature Date Duration Date
signatures_of binary.SubtractDurationFromDate = signature Date Duration Date
signatures_of binary.SubtractDates = signature Date Date Duration
signatures_of binary.AddDurations = signature Duration Duration Duration
signatures_of binary.SubtractDurations = signature Duration Duration Duration
signatures_of binary.MultiplyDurationByInteger = signature Duration Integer Duration
signatures_of binary.Xor = signature Boolean Boolean Boolean
signatures_of binary.Less = map comparison ordered_types
signatures_of binary.AtMost = map comparison ordered_types
signatures_of binary.Greater = map comparison ordered_types
signatures_of binary.AtLeast = map comparison ordered_types
signatures_of binary.Equal = map comparison compared_types
signatures_of binary.Unequal = map comparison compared_types

-- the type that an operator before one operand takes, and that of its result
abbrev pub taken_by : UnaryOp → Ty
taken_by unary.NegateInteger = Integer
taken_by unary.NegateDecimal = Decimal
taken_by unary.NegateMoney = Money
taken_by unary.NegateDuration = Duration
taken_by unary.Not = Boolean
taken_by unary.IntegerOfDecimal = Decimal
taken_by unary.DecimalOfInteger = Integer
taken_by unary.DecimalOfMoney = Money
taken_by unary.MoneyOfDecimal = Decimal
taken_by unary.MoneyOfInteger = Integer
taken_by unary.RoundDecimal = Decimal
taken_by unary.RoundMoney = Money
taken_by unary.YearOfDate = Date
taken_by unary.MonthOfDate = Date
taken_by unary.DayOfDate = Date

-- the type of the result
abbrev pub given_by : UnaryOp → Ty
given_by unary.NegateInteger = Integer
given_by unary.NegateDecimal = Decimal
given_by unary.NegateMoney = Money
given_by unary.NegateDuration = Duration
given_by unary.Not = Boolean
given_by unary.IntegerOfDecimal = Integer
given_by unary.DecimalOfInteger = Decimal
given_by unary.DecimalOfMoney = Decimal
given_by unary.MoneyOfDecimal = Money
given_by unary.MoneyOfInteger = Money
given_by unary.RoundDecimal = Decimal
given_by unary.RoundMoney = Money
given_by unary.YearOfDate = Integer
given_by unary.MonthOfDate = Integer
given_by unary.DayOfDate = Integer

-- the type of what is added up
abbrev pub summed_type : SumKind → Ty
summed_type sum.Integers = Integer
summed_type sum.Decimals = Decimal
summed_type sum.Money = Money
summed_type sum.Durations = Duration
