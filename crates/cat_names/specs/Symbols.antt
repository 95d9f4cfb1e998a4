-- How each operator is written, and that what is written stands for it.
use Rattle.std.specs.Prelude.{◌≡◌, Some}
use Rattle.cat_value.specs.declared.ty.Ty.{Ty}
use Rattle.cat_tree.specs.declared.expression.Operator.{Operator}
use Rattle.cat_tree.specs.declared.expression.Operator.TheVariants as operator
use Rattle.cat_tree.specs.declared.expression.Prefix.{Prefix}
use Rattle.cat_tree.specs.declared.expression.Prefix.TheVariants as prefix
use Rattle.cat_scope.specs.declared.operators.BinaryOp.{BinaryOp}
use Rattle.cat_scope.specs.declared.operators.BinaryOp.TheVariants as binary
use Rattle.cat_scope.specs.declared.operators.UnaryOp.{UnaryOp}
use Rattle.cat_scope.specs.declared.operators.UnaryOp.TheVariants as unary
use Rattle.cat_scope.specs.Signatures.{Signature, taken_by, given_by}
use Rattle.cat_names.specs.declared.typed.Flat.{Flat}
use Rattle.cat_names.specs.Types.{flat_of, whole}
use Rattle.cat_names.specs.Rows.{operator_for, prefix_for}

-- the symbol between two operands
abbrev pub symbol_between : BinaryOp → Operator
symbol_between binary.AddIntegers = operator.Plus
symbol_between binary.AddDecimals = operator.Plus
symbol_between binary.AddMoney = operator.Plus
symbol_between binary.AddDurationToDate = operator.Plus
symbol_between binary.AddDurations = operator.Plus
symbol_between binary.SubtractIntegers = operator.Minus
symbol_between binary.SubtractDecimals = operator.Minus
symbol_between binary.SubtractMoney = operator.Minus
symbol_between binary.SubtractDurationFromDate = operator.Minus
symbol_between binary.SubtractDates = operator.Minus
symbol_between binary.SubtractDurations = operator.Minus
symbol_between binary.MultiplyIntegers = operator.Times
symbol_between binary.MultiplyDecimals = operator.Times
symbol_between binary.MultiplyMoneyByDecimal = operator.Times
symbol_between binary.MultiplyDecimalByMoney = operator.Times
symbol_between binary.MultiplyMoneyByInteger = operator.Times
symbol_between binary.MultiplyIntegerByMoney = operator.Times
symbol_between binary.MultiplyDurationByInteger = operator.Times
symbol_between binary.DivideIntegers = operator.Divide
symbol_between binary.DivideDecimals = operator.Divide
symbol_between binary.DivideMoneyByDecimal = operator.Divide
symbol_between binary.DivideMoneyByInteger = operator.Divide
symbol_between binary.DivideMoney = operator.Divide
symbol_between binary.Xor = operator.Xor
symbol_between binary.Less = operator.Less
symbol_between binary.AtMost = operator.LessEqual
symbol_between binary.Greater = operator.Greater
symbol_between binary.AtLeast = operator.GreaterEqual
symbol_between binary.Equal = operator.Equal
symbol_between binary.Unequal = operator.NotEqual

-- the word or symbol before an operand
abbrev pub symbol_before : UnaryOp → Prefix
symbol_before unary.Not = prefix.Not
symbol_before unary.NegateInteger = prefix.Negate
symbol_before unary.NegateDecimal = prefix.Negate
symbol_before unary.NegateMoney = prefix.Negate
symbol_before unary.NegateDuration = prefix.Negate
symbol_before unary.IntegerOfDecimal = prefix.IntegerOf
symbol_before unary.DecimalOfInteger = prefix.DecimalOf
symbol_before unary.DecimalOfMoney = prefix.DecimalOf
symbol_before unary.MoneyOfDecimal = prefix.MoneyOf
symbol_before unary.MoneyOfInteger = prefix.MoneyOf
symbol_before unary.RoundDecimal = prefix.RoundOf
symbol_before unary.RoundMoney = prefix.RoundOf
symbol_before unary.YearOfDate = prefix.GetYear
symbol_before unary.MonthOfDate = prefix.GetMonth
symbol_before unary.DayOfDate = prefix.GetDay

-- between operands of the types of a signature, the symbol of an operator stands for it, with that signature's result
pub record StandsBetween (o : BinaryOp) (s : Signature) : Type 0 where
  pub result : Flat
  pub row_is : operator_for (symbol_between o) s.left s.right ≡ Some (o, result)
  pub result_is : whole result ≡ s.result

-- and before an operand of the type that it takes
pub record StandsBefore (o : UnaryOp) : Type 0 where
  pub result : Flat
  pub row_is : prefix_for (symbol_before o) (taken_by o) ≡ Some (o, result)
  pub result_is : whole result ≡ given_by o

-- a type that operators take
pub record IsFlat (t : Ty) : Type 0 where
  pub flat : Flat
  pub flat_is : flat_of t ≡ Some flat
  pub whole_is : whole flat ≡ t
