-- What the operators give that stand most often.
use Rattle.std.specs.Prelude.{◌≡◌, Option, Some, None, Result, Ok, Err}
use Rattle.std.specs.declared.cmp.Ordering.{Ordering}
use Rattle.cat_pos.specs.declared.pos.Pos.{Pos}
use Rattle.cat_num.specs.declared.fault.NumFault.{NumFault}
use Rattle.cat_date.specs.declared.rounding.Rounding.{Rounding}
use Rattle.cat_value.specs.declared.value.Value.{Value}
use Rattle.cat_scope.specs.declared.operators.BinaryOp.{BinaryOp}
use Rattle.cat_scope.specs.Comparing.{compared}
use Rattle.cat_scope.specs.Operators.{operate}
use Rattle.cat_scalar.specs.declared.scalar.Scalar.{Scalar}
use Rattle.cat_scalar.specs.Scalars.{scalar_of, scalar_reply}

-- an operator gives a scalar between all values in which these two are
abbrev pub Gives : BinaryOp → Scalar → Scalar → Scalar → Type 0
Gives op a b s = (rounding : Rounding) (p : Pos) (v w : Value) → scalar_of v ≡ a → scalar_of w ≡ b
    → operate rounding op p v w ≡ scalar_reply s

-- an operator gives a scalar between all values that stand so to each other
abbrev pub GivesBy : BinaryOp → Ordering → Scalar → Type 0
GivesBy op order s = (rounding : Rounding) (p : Pos) (v w : Value) → compared p v w ≡ Ok order
    → operate rounding op p v w ≡ scalar_reply s

-- an exact result as a scalar, where there is one
abbrev pub exact_in : {A : Type 0} → (A → Scalar) → Result A NumFault → Option Scalar
exact_in make (Ok a) = Some (make a)
exact_in make (Err fault) = None
