-- Comparisons with a constant: which cuts they are made of.
use Rattle.std.specs.Prelude.{Bool, not, neg_ℤ, Option, Some, None}
use Rattle.std.specs.declared.cmp.Ordering.{Ordering}
use Rattle.cat_num.specs.Frac.{frac_negation}
use Rattle.cat_num.specs.Numerals.{numeral_value}
use Rattle.cat_region.specs.declared.dim.Dim.{Dim}
use Rattle.cat_region.specs.declared.dim.Dim.TheVariants as dim
use Rattle.cat_region.specs.declared.cut.Threshold.{Threshold}
use Rattle.cat_region.specs.declared.cut.Threshold.TheVariants as threshold
use Rattle.cat_scope.specs.declared.expr.Literal.{Literal}
use Rattle.cat_scope.specs.declared.expr.Literal.TheVariants as literal
use Rattle.cat_scope.specs.declared.expr.Expr.{Expr}
use Rattle.cat_scope.specs.declared.expr.Expr.TheOpen.{Expr-F}
use Rattle.cat_scope.specs.declared.expr.Expr.TheViews.{out-Expr}
use Rattle.cat_scope.specs.declared.expr.Arm.{Arm}
use Rattle.cat_scope.specs.declared.expr.FieldValue.{FieldValue}
use Rattle.cat_scope.specs.declared.operators.UnaryOp.{UnaryOp}
use Rattle.cat_scope.specs.declared.operators.UnaryOp.TheVariants as unary
use Rattle.cat_scope.specs.declared.operators.BinaryOp.{BinaryOp}
use Rattle.cat_scope.specs.declared.operators.BinaryOp.TheVariants as binary
use Rattle.cat_scope.specs.Comparing.{is_less, is_equal, is_greater}
use Rattle.cat_guard.specs.Formulas.{Formula, Not, Both}

-- how two values may be compared
pub data Comparison : Type 0 where
  Less : Comparison
  AtMost : Comparison
  Greater : Comparison
  AtLeast : Comparison
  Equal : Comparison
  Unequal : Comparison

-- which operators compare
abbrev pub comparison_of : BinaryOp → Option Comparison
comparison_of binary.Less = Some Less
comparison_of binary.AtMost = Some AtMost
comparison_of binary.Greater = Some Greater
comparison_of binary.AtLeast = Some AtLeast
comparison_of binary.Equal = Some Equal
comparison_of binary.Unequal = Some Unequal
comparison_of _ = None

-- what a comparison says of how the left value stands to the right one
abbrev pub reads : Comparison → Ordering → Bool
reads Less o = is_less o
reads AtMost o = not (is_greater o)
reads Greater o = is_greater o
reads AtLeast o = not (is_less o)
reads Equal o = is_equal o
reads Unequal o = not (is_equal o)

-- the same comparison with its sides exchanged
abbrev pub turned : Comparison → Comparison
turned Less = Greater
turned AtMost = AtLeast
turned Greater = Less
turned AtLeast = AtMost
turned Equal = Equal
turned Unequal = Unequal

-- a comparison with a constant on the right, by whether the left value is below it and whether it is at most that
abbrev pub parted : {A : Type 0} → Comparison → Formula A → Formula A → Formula A
parted Less below at_most = below
parted AtMost below at_most = at_most
parted Greater below at_most = Not at_most
parted AtLeast below at_most = Not below
parted Equal below at_most = Both at_most (Not below)
parted Unequal below at_most = Not (Both at_most (Not below))

-- the dimension of what may be compared with a constant
abbrev pub threshold_dim : Threshold → Dim
threshold_dim (threshold.Whole n) = dim.Whole
threshold_dim (threshold.Money cents) = dim.Money
threshold_dim (threshold.Day day) = dim.Day
threshold_dim (threshold.Decimal f) = dim.Decimal

-- the constant that a literal is: an integer, a decimal, an amount or a date
abbrev pub literal_constant : Literal → Option Threshold
literal_constant (literal.Boolean b) = None
literal_constant (literal.Integer n) = Some (threshold.Whole n)
literal_constant (literal.Decimal d) = Some (threshold.Decimal (numeral_value d))
literal_constant (literal.Money cents) = Some (threshold.Money cents)
literal_constant (literal.Date day) = Some (threshold.Day day)
literal_constant (literal.Duration span) = None

-- the constant that a negated literal is
abbrev pub negated_constant : UnaryOp → Literal → Option Threshold
negated_constant unary.NegateInteger (literal.Integer n) = Some (threshold.Whole (neg_ℤ n))
negated_constant unary.NegateDecimal (literal.Decimal d) = Some (threshold.Decimal (frac_negation (numeral_value d)))
negated_constant unary.NegateMoney (literal.Money cents) = Some (threshold.Money (neg_ℤ cents))
negated_constant _ _ = None

-- the constant that an operator before an expression of that form is
abbrev pub constant_under : UnaryOp → Expr-F Expr Arm FieldValue → Option Threshold
constant_under o (Expr-F.Literal p l) = negated_constant o l
constant_under o _ = None

-- the constant that an expression of that form is
abbrev pub constant_in : Expr-F Expr Arm FieldValue → Option Threshold
constant_in (Expr-F.Literal p l) = literal_constant l
constant_in (Expr-F.Unary p o e) = constant_under o (out-Expr e)
constant_in _ = None

-- the constant that an expression is, where it is a literal or a negated one
abbrev pub constant_of : Expr → Option Threshold
constant_of e = constant_in (out-Expr e)
