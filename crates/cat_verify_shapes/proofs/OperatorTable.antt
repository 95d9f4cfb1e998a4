-- The table of operators is in the order of their numbers.
use Rattle.std.proofs.Common.{◌≡◌, ◌-◌, ℕ, zero, suc, true, false, List, [], ◌∷◌, Option, None, slice_get, refl}
use Rattle.std.proofs.Common.{sym, ap, ◌∙◌}
use Rattle.std.proofs.Common.{drop, subst, arith}
use Rattle.cat_value.specs.declared.ty.Ty.{Ty}
use Rattle.cat_value.specs.declared.ty.Ty.TheVariants as ty
use Rattle.cat_scope.specs.declared.operators.UnaryOp.TheVariants as unary
use Rattle.cat_scope.specs.declared.operators.BinaryOp.TheVariants as binary
use Rattle.cat_scope.specs.Signatures.{Signature}
use Rattle.cat_code.specs.Operations.{Operation, operation, operations}
use Rattle.cat_verify_shapes.specs.declared.forms.Form.TheVariants as form
use Rattle.cat_verify_shapes.specs.declared.operators.Operator.{Operator}
use Rattle.cat_verify_shapes.specs.declared.operators.Operator.TheVariants as operator
use Rattle.cat_verify_shapes.specs.inside.Operators.{IsOf, IsNamed}

-- operators are those of operations, one by one
abbrev AreOf : List Operator → List Operation → Type 0
AreOf [] [] = Unit {0}
AreOf [] (o ∷ os) = ⊥
AreOf (op ∷ ops) [] = ⊥
AreOf (op ∷ ops) (o ∷ os) = IsOf op o × AreOf ops os

named_at : (ops : List Operator) (os : List Operation) → AreOf ops os → (k : ℕ)
    → IsNamed (slice_get os k) (slice_get ops k)
named_at [] [] h k = refl
named_at [] (o ∷ os) h k = absurd h
named_at (op ∷ ops) [] h k = absurd h
named_at (op ∷ ops) (o ∷ os) h zero = (op, refl, h.0)
named_at (op ∷ ops) (o ∷ os) h (suc k) = named_at ops os h.1 k

abbrev pub the_table : List Operator
the_table =
    operator.Between form.Whole form.Whole form.Whole ∷ operator.Between form.Whole form.Whole form.Whole ∷
    operator.Between form.Whole form.Whole form.Whole ∷ operator.Between form.Whole form.Whole form.Fraction ∷
    operator.Between form.Fraction form.Fraction form.Fraction ∷
    operator.Between form.Fraction form.Fraction form.Fraction ∷
    operator.Between form.Fraction form.Fraction form.Fraction ∷
    operator.Between form.Fraction form.Fraction form.Fraction ∷
    operator.Between form.Amount form.Amount form.Amount ∷
    operator.Between form.Amount form.Amount form.Amount ∷
    operator.Between form.Amount form.Fraction form.Amount ∷
    operator.Between form.Fraction form.Amount form.Amount ∷
    operator.Between form.Amount form.Whole form.Amount ∷ operator.Between form.Whole form.Amount form.Amount ∷
    operator.Between form.Amount form.Fraction form.Amount ∷
    operator.Between form.Amount form.Whole form.Amount ∷
    operator.Between form.Amount form.Amount form.Fraction ∷ operator.Between form.Day form.Span form.Day ∷
    operator.Between form.Day form.Span form.Day ∷ operator.Between form.Day form.Day form.Span ∷
    operator.Between form.Span form.Span form.Span ∷ operator.Between form.Span form.Span form.Span ∷
    operator.Between form.Span form.Whole form.Span ∷ operator.Before form.Whole form.Whole ∷
    operator.Before form.Fraction form.Fraction ∷ operator.Before form.Amount form.Amount ∷
    operator.Before form.Span form.Span ∷ operator.Before form.Truth form.Truth ∷
    operator.Between form.Truth form.Truth form.Truth ∷ operator.Compares true ∷ operator.Compares true ∷
    operator.Compares true ∷ operator.Compares true ∷ operator.Compares false ∷ operator.Compares false ∷
    operator.Before form.Fraction form.Whole ∷ operator.Before form.Whole form.Fraction ∷
    operator.Before form.Amount form.Fraction ∷ operator.Before form.Fraction form.Amount ∷
    operator.Before form.Whole form.Amount ∷ operator.Before form.Fraction form.Fraction ∷
    operator.Before form.Amount form.Amount ∷ operator.Before form.Day form.Whole ∷
    operator.Before form.Day form.Whole ∷ operator.Before form.Day form.Whole ∷ []

-- the types of an operator between two operands
abbrev row : Ty → Ty → Ty → Signature
row left right result = record { left = left; right = right; result = result }

from_40 : AreOf (drop 40 the_table) (drop 40 operations)
from_40 = (
  (unary.RoundDecimal, refl, refl, refl),
  (
    (unary.RoundMoney, refl, refl, refl),
    (
      (unary.YearOfDate, refl, refl, refl),
      (
        (unary.MonthOfDate, refl, refl, refl),
        (
          (unary.DayOfDate, refl, refl, refl),
          tt,
        ),
      ),
    ),
  ),
)

from_35 : AreOf (drop 35 the_table) (drop 35 operations)
from_35 = (
  (unary.IntegerOfDecimal, refl, refl, refl),
  (
    (unary.DecimalOfInteger, refl, refl, refl),
    (
      (unary.DecimalOfMoney, refl, refl, refl),
      (
        (unary.MoneyOfDecimal, refl, refl, refl),
        (
          (unary.MoneyOfInteger, refl, refl, refl),
          from_40,
        ),
      ),
    ),
  ),
)

from_30 : AreOf (drop 30 the_table) (drop 30 operations)
from_30 = (
  (binary.AtMost, refl, refl),
  (
    (binary.Greater, refl, refl),
    (
      (binary.AtLeast, refl, refl),
      (
        (binary.Equal, refl, refl),
        (
          (binary.Unequal, refl, refl),
          from_35,
        ),
      ),
    ),
  ),
)

from_25 : AreOf (drop 25 the_table) (drop 25 operations)
from_25 = (
  (unary.NegateMoney, refl, refl, refl),
  (
    (unary.NegateDuration, refl, refl, refl),
    (
      (unary.Not, refl, refl, refl),
      (
        (binary.Xor, row ty.Boolean ty.Boolean ty.Boolean, refl, refl, refl, refl, refl),
        (
          (binary.Less, refl, refl),
          from_30,
        ),
      ),
    ),
  ),
)

from_20 : AreOf (drop 20 the_table) (drop 20 operations)
from_20 = (
  (binary.AddDurations, row ty.Duration ty.Duration ty.Duration, refl, refl, refl, refl, refl),
  (
    (binary.SubtractDurations, row ty.Duration ty.Duration ty.Duration, refl, refl, refl, refl, refl),
    (
      (binary.MultiplyDurationByInteger, row ty.Duration ty.Integer ty.Duration, refl, refl, refl, refl, refl),
      (
        (unary.NegateInteger, refl, refl, refl),
        (
          (unary.NegateDecimal, refl, refl, refl),
          from_25,
        ),
      ),
    ),
  ),
)

from_15 : AreOf (drop 15 the_table) (drop 15 operations)
from_15 = (
  (binary.DivideMoneyByInteger, row ty.Money ty.Integer ty.Money, refl, refl, refl, refl, refl),
  (
    (binary.DivideMoney, row ty.Money ty.Money ty.Decimal, refl, refl, refl, refl, refl),
    (
      (binary.AddDurationToDate, row ty.Date ty.Duration ty.Date, refl, refl, refl, refl, refl),
      (
        (binary.SubtractDurationFromDate, row ty.Date ty.Duration ty.Date, refl, refl, refl, refl, refl),
        (
          (binary.SubtractDates, row ty.Date ty.Date ty.Duration, refl, refl, refl, refl, refl),
          from_20,
        ),
      ),
    ),
  ),
)

from_10 : AreOf (drop 10 the_table) (drop 10 operations)
from_10 = (
  (binary.MultiplyMoneyByDecimal, row ty.Money ty.Decimal ty.Money, refl, refl, refl, refl, refl),
  (
    (binary.MultiplyDecimalByMoney, row ty.Decimal ty.Money ty.Money, refl, refl, refl, refl, refl),
    (
      (binary.MultiplyMoneyByInteger, row ty.Money ty.Integer ty.Money, refl, refl, refl, refl, refl),
      (
        (binary.MultiplyIntegerByMoney, row ty.Integer ty.Money ty.Money, refl, refl, refl, refl, refl),
        (
          (binary.DivideMoneyByDecimal, row ty.Money ty.Decimal ty.Money, refl, refl, refl, refl, refl),
          from_15,
        ),
      ),
    ),
  ),
)

from_5 : AreOf (drop 5 the_table) (drop 5 operations)
from_5 = (
  (binary.SubtractDecimals, row ty.Decimal ty.Decimal ty.Decimal, refl, refl, refl, refl, refl),
  (
    (binary.MultiplyDecimals, row ty.Decimal ty.Decimal ty.Decimal, refl, refl, refl, refl, refl),
    (
      (binary.DivideDecimals, row ty.Decimal ty.Decimal ty.Decimal, refl, refl, refl, refl, refl),
      (
        (binary.AddMoney, row ty.Money ty.Money ty.Money, refl, refl, refl, refl, refl),
        (
          (binary.SubtractMoney, row ty.Money ty.Money ty.Money, refl, refl, refl, refl, refl),
          from_10,
        ),
      ),
    ),
  ),
)

the_operations : AreOf the_table operations
the_operations = (
  (binary.AddIntegers, row ty.Integer ty.Integer ty.Integer, refl, refl, refl, refl, refl),
  (
    (binary.SubtractIntegers, row ty.Integer ty.Integer ty.Integer, refl, refl, refl, refl, refl),
    (
      (binary.MultiplyIntegers, row ty.Integer ty.Integer ty.Integer, refl, refl, refl, refl, refl),
      (
        (binary.DivideIntegers, row ty.Integer ty.Integer ty.Decimal, refl, refl, refl, refl, refl),
        (
          (binary.AddDecimals, row ty.Decimal ty.Decimal ty.Decimal, refl, refl, refl, refl, refl),
          from_5,
        ),
      ),
    ),
  ),
)

pub operation_at : (n : ℕ) → (n ≡ 0 → ⊥) → (named : Option Operator) → named ≡ slice_get the_table (n - 1)
    → IsNamed (operation n) named
operation_at zero some named is = absurd (some refl)
operation_at (suc n) some named is =
    subst (IsNamed (operation (suc n))) (sym (is ∙ ap (slice_get the_table) (less n)))
    (named_at the_table operations the_operations n)
  where
    less : (n : ℕ) → suc n - 1 ≡ n
    less n = omega arith

pub no_operation : (n : ℕ) → n ≡ 0 → IsNamed (operation n) None
no_operation n e = subst (λ (k : ℕ). IsNamed (operation k) None) (sym e) refl
