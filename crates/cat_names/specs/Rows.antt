-- The rows of the operators: which one a written operator stands for, by the types of its operands, and the type that
-- it gives.
use Rattle.std.specs.Prelude.{◌&&◌, Bool, true, false, Option, Some, None}
use Rattle.cat_value.specs.declared.ty.Ty.{Ty}
use Rattle.cat_tree.specs.declared.expression.Operator.{Operator}
use Rattle.cat_tree.specs.declared.expression.Operator.TheVariants as operator
use Rattle.cat_tree.specs.declared.expression.Prefix.{Prefix}
use Rattle.cat_tree.specs.declared.expression.Prefix.TheVariants as prefix
use Rattle.cat_scope.specs.declared.operators.BinaryOp.{BinaryOp}
use Rattle.cat_scope.specs.declared.operators.BinaryOp.TheVariants as binary
use Rattle.cat_scope.specs.declared.operators.UnaryOp.{UnaryOp}
use Rattle.cat_scope.specs.declared.operators.UnaryOp.TheVariants as unary
use Rattle.cat_scope.specs.declared.operators.SumKind.{SumKind}
use Rattle.cat_scope.specs.declared.operators.SumKind.TheVariants as sum
use Rattle.cat_names.specs.declared.typed.Flat.{Flat}
use Rattle.cat_names.specs.declared.typed.Flat.TheVariants as flat
use Rattle.cat_names.specs.Types.{same, flat_of, whole}

-- whether two flat types are one
abbrev pub same_flat : Flat → Flat → Bool
same_flat a b = same (whole a) (whole b)

-- all but truth values have an order
abbrev pub is_ordered : Flat → Bool
is_ordered flat.Boolean = false
is_ordered _ = true

-- a comparing, which gives a truth value, where its operands may be compared
abbrev pub comparing : BinaryOp → Bool → Option (BinaryOp × Flat)
comparing o true = Some (o, flat.Boolean)
comparing o false = None

-- the row of a written operator for operands of these types, and the type that it gives
abbrev pub chosen : Operator → Flat → Flat → Option (BinaryOp × Flat)
chosen operator.Plus flat.Integer flat.Integer = Some (binary.AddIntegers, flat.Integer)
chosen operator.Plus flat.Decimal flat.Decimal = Some (binary.AddDecimals, flat.Decimal)
chosen operator.Plus flat.Money flat.Money = Some (binary.AddMoney, flat.Money)
chosen operator.Plus flat.Date flat.Duration = Some (binary.AddDurationToDate, flat.Date)
chosen operator.Plus flat.Duration flat.Duration = Some (binary.AddDurations, flat.Duration)
chosen operator.Minus flat.Integer flat.Integer = Some (binary.SubtractIntegers, flat.Integer)
chosen operator.Minus flat.Decimal flat.Decimal = Some (binary.SubtractDecimals, flat.Decimal)
chosen operator.Minus flat.Money flat.Money = Some (binary.SubtractMoney, flat.Money)
chosen operator.Minus flat.Date flat.Duration = Some (binary.SubtractDurationFromDate, flat.Date)
chosen operator.Minus flat.Date flat.Date = Some (binary.SubtractDates, flat.Duration)
chosen operator.Minus flat.Duration flat.Duration = Some (binary.SubtractDurations, flat.Duration)
chosen operator.Times flat.Integer flat.Integer = Some (binary.MultiplyIntegers, flat.Integer)
chosen operator.Times flat.Decimal flat.Decimal = Some (binary.MultiplyDecimals, flat.Decimal)
chosen operator.Times flat.Money flat.Decimal = Some (binary.MultiplyMoneyByDecimal, flat.Money)
chosen operator.Times flat.Decimal flat.Money = Some (binary.MultiplyDecimalByMoney, flat.Money)
chosen operator.Times flat.Money flat.Integer = Some (binary.MultiplyMoneyByInteger, flat.Money)
chosen operator.Times flat.Integer flat.Money = Some (binary.MultiplyIntegerByMoney, flat.Money)
chosen operator.Times flat.Duration flat.Integer = Some (binary.MultiplyDurationByInteger, flat.Duration)
chosen operator.Divide flat.Integer flat.Integer = Some (binary.DivideIntegers, flat.Decimal)
chosen operator.Divide flat.Decimal flat.Decimal = Some (binary.DivideDecimals, flat.Decimal)
chosen operator.Divide flat.Money flat.Decimal = Some (binary.DivideMoneyByDecimal, flat.Money)
chosen operator.Divide flat.Money flat.Integer = Some (binary.DivideMoneyByInteger, flat.Money)
chosen operator.Divide flat.Money flat.Money = Some (binary.DivideMoney, flat.Decimal)
chosen operator.Xor flat.Boolean flat.Boolean = Some (binary.Xor, flat.Boolean)
chosen operator.Less a b = comparing binary.Less (is_ordered a && same_flat a b)
chosen operator.LessEqual a b = comparing binary.AtMost (is_ordered a && same_flat a b)
chosen operator.Greater a b = comparing binary.Greater (is_ordered a && same_flat a b)
chosen operator.GreaterEqual a b = comparing binary.AtLeast (is_ordered a && same_flat a b)
chosen operator.Equal a b = comparing binary.Equal (same_flat a b)
chosen operator.NotEqual a b = comparing binary.Unequal (same_flat a b)
chosen _ _ _ = None

-- the row of a written prefix for an operand of this type, and the type that it gives
abbrev pub converted : Prefix → Flat → Option (UnaryOp × Flat)
converted prefix.Not flat.Boolean = Some (unary.Not, flat.Boolean)
converted prefix.Negate flat.Integer = Some (unary.NegateInteger, flat.Integer)
converted prefix.Negate flat.Decimal = Some (unary.NegateDecimal, flat.Decimal)
converted prefix.Negate flat.Money = Some (unary.NegateMoney, flat.Money)
converted prefix.Negate flat.Duration = Some (unary.NegateDuration, flat.Duration)
converted prefix.IntegerOf flat.Decimal = Some (unary.IntegerOfDecimal, flat.Integer)
converted prefix.DecimalOf flat.Integer = Some (unary.DecimalOfInteger, flat.Decimal)
converted prefix.DecimalOf flat.Money = Some (unary.DecimalOfMoney, flat.Decimal)
converted prefix.MoneyOf flat.Decimal = Some (unary.MoneyOfDecimal, flat.Money)
converted prefix.MoneyOf flat.Integer = Some (unary.MoneyOfInteger, flat.Money)
converted prefix.RoundOf flat.Decimal = Some (unary.RoundDecimal, flat.Decimal)
converted prefix.RoundOf flat.Money = Some (unary.RoundMoney, flat.Money)
converted prefix.GetYear flat.Date = Some (unary.YearOfDate, flat.Integer)
converted prefix.GetMonth flat.Date = Some (unary.MonthOfDate, flat.Integer)
converted prefix.GetDay flat.Date = Some (unary.DayOfDate, flat.Integer)
converted _ _ = None

-- what a sum of this type adds up
abbrev pub sum_kind : Flat → Option SumKind
sum_kind flat.Integer = Some sum.Integers
sum_kind flat.Decimal = Some sum.Decimals
sum_kind flat.Money = Some sum.Money
sum_kind flat.Duration = Some sum.Durations
sum_kind _ = None

-- the same where the types may be any
abbrev pub of_flat : {A : Type 0} → (Flat → Option A) → Option Flat → Option A
of_flat row None = None
of_flat row (Some a) = row a

-- the row of an operator between two operands of any types
abbrev pub operator_for : Operator → Ty → Ty → Option (BinaryOp × Flat)
operator_for o a b = of_flat (λ left. of_flat (chosen o left) (flat_of b)) (flat_of a)

-- the row of a prefix before an operand of any type
abbrev pub prefix_for : Prefix → Ty → Option (UnaryOp × Flat)
prefix_for o t = of_flat (converted o) (flat_of t)

-- what is added up in a sum of any type
abbrev pub sum_for : Ty → Option SumKind
sum_for t = of_flat sum_kind (flat_of t)
