-- Each operator and each rounding stands at its number.
use Rattle.std.proofs.Common.{◌≡◌, Some, refl, slice_get}
use Rattle.cat_date.specs.declared.rounding.Rounding.{Rounding}
use Rattle.cat_date.specs.declared.rounding.Rounding.TheVariants as rounding
use Rattle.cat_scope.specs.declared.operators.UnaryOp.{UnaryOp}
use Rattle.cat_scope.specs.declared.operators.UnaryOp.TheVariants as unary
use Rattle.cat_scope.specs.declared.operators.BinaryOp.{BinaryOp}
use Rattle.cat_scope.specs.declared.operators.BinaryOp.TheVariants as binary
use Rattle.cat_code.specs.Operations.{Before, Between, operation, roundings}
use Rattle.cat_code.specs.OperationNumbers.{number_before, number_between, rounding_number}

pub operation-number_before : (o : UnaryOp) → operation (number_before o) ≡ Some (Before o)
operation-number_before unary.NegateInteger = refl
operation-number_before _ = refl

pub operation-number_between : (o : BinaryOp) → operation (number_between o) ≡ Some (Between o)
operation-number_between binary.AddIntegers = refl
operation-number_between _ = refl

pub roundings-rounding_number : (r : Rounding) → slice_get roundings (rounding_number r) ≡ Some r
roundings-rounding_number rounding.Refuse = refl
roundings-rounding_number _ = refl
