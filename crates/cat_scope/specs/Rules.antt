-- The words of the rules of typing: expressions and types, what names must name, and what literals, operators, arms,
-- fields and calls must be.
pub use Rattle.cat_pos.specs.declared.pos.Pos.{Pos}
pub use Rattle.cat_value.specs.declared.ty.Ty.{Ty}
pub use Rattle.cat_value.specs.Typing.{is_type, most_elements}
pub use Rattle.cat_value.specs.Entries.{content_of}
pub use Rattle.cat_scope.specs.declared.expr.Literal.{Literal}
pub use Rattle.cat_scope.specs.declared.operators.UnaryOp.{UnaryOp}
pub use Rattle.cat_scope.specs.declared.operators.BinaryOp.{BinaryOp}
pub use Rattle.cat_scope.specs.declared.operators.SumKind.{SumKind}
pub use Rattle.cat_scope.specs.declared.expr.Expr.{Expr}
pub use Rattle.cat_scope.specs.declared.expr.FieldValue.{FieldValue}
pub use Rattle.cat_scope.specs.declared.expr.Arm.{Arm}
pub use Rattle.cat_scope.specs.Literals.{literal_type, literal_fits}
pub use Rattle.cat_scope.specs.Signatures.{Signature, signatures_of, taken_by, given_by, summed_type, compared_types}
pub use Rattle.cat_scope.specs.Names.{Names, IsOneOf, is_plain}
pub use Rattle.cat_scope.specs.Naming.{IsItem, IsCalledOutput, IsFunction, IsOutput}
pub use Rattle.cat_scope.specs.Fitting.{numbers_in, are_complete, ArmLocals, field_type, are_fields_of, is_low_type}
pub use Rattle.cat_scope.specs.Fitting.{has_case, are_call_fields, input_type}
