-- What the forms of expressions tell of their evaluation.
use Rattle.std.specs.Prelude.{Bool, true, false, Option, None, Some}
use Rattle.cat_scope.specs.declared.expr.Literal.{Literal}
use Rattle.cat_scope.specs.declared.expr.Literal.TheVariants as literal
use Rattle.cat_scope.specs.declared.expr.Expr.{Expr}
use Rattle.cat_scope.specs.declared.expr.Expr.TheOpen.{Expr-F}
use Rattle.cat_scope.specs.declared.expr.Expr.TheFolds.{fold-Expr}
use Rattle.cat_scope.specs.declared.operators.UnaryOp.{UnaryOp}
use Rattle.cat_scope.specs.declared.operators.UnaryOp.TheVariants as unary
use Rattle.cat_scope.specs.declared.operators.BinaryOp.{BinaryOp}
use Rattle.cat_scope.specs.declared.operators.BinaryOp.TheVariants as binary
use Rattle.cat_dead_report.specs.declared.forms.Safety.{Safety}
use Rattle.cat_dead_report.specs.declared.forms.Safety.TheVariants as safety

-- a literal
abbrev pub of_literal : Literal → Safety
of_literal (literal.Duration span) = safety.CannotFault
of_literal l = safety.Constant

-- what is read off the value of an expression
abbrev pub of_part : Safety → Safety
of_part safety.MayFault = safety.MayFault
of_part safety.CannotFault = safety.CannotFault
of_part safety.Constant = safety.CannotFault

-- a sign or `not` before an expression
abbrev pub of_unary : UnaryOp → Safety → Safety
of_unary unary.NegateInteger s = s
of_unary unary.NegateDecimal s = s
of_unary unary.NegateMoney s = s
of_unary unary.Not s = s
of_unary o s = safety.MayFault

-- two expressions, of which the second may be evaluated behind the first
abbrev pub of_both : Safety → Safety → Safety
of_both safety.MayFault s = safety.MayFault
of_both safety.CannotFault s = of_part s
of_both safety.Constant s = of_part s

-- a comparison of what can't fault with an expression
abbrev pub of_compared : Safety → Safety
of_compared safety.MayFault = safety.MayFault
of_compared safety.CannotFault = safety.MayFault
of_compared safety.Constant = safety.CannotFault

-- a comparison of two, of which one must be a constant
abbrev pub of_comparison : Safety → Safety → Safety
of_comparison safety.MayFault s = safety.MayFault
of_comparison safety.CannotFault s = of_compared s
of_comparison safety.Constant s = of_part s

-- an operator between two
abbrev pub of_binary : BinaryOp → Safety → Safety → Safety
of_binary binary.Less a b = of_comparison a b
of_binary binary.AtMost a b = of_comparison a b
of_binary binary.Greater a b = of_comparison a b
of_binary binary.AtLeast a b = of_comparison a b
of_binary binary.Equal a b = of_comparison a b
of_binary binary.Unequal a b = of_comparison a b
of_binary o a b = safety.MayFault

-- a case with its content
abbrev pub of_content : {A : Type 0} → Option A → Safety
of_content None = safety.CannotFault
of_content (Some a) = safety.MayFault

-- an expression by its form, where its parts are told
abbrev pub safety_in : Expr-F Safety (Unit {0}) (Unit {0}) → Safety
safety_in (Expr-F.Literal p l) = of_literal l
safety_in (Expr-F.Item p item) = safety.CannotFault
safety_in (Expr-F.Output p item k) = safety.CannotFault
safety_in (Expr-F.Field p e k) = of_part e
safety_in (Expr-F.Unary p o e) = of_unary o e
safety_in (Expr-F.Binary p o q a b) = of_binary o a b
safety_in (Expr-F.And p a b) = of_both a b
safety_in (Expr-F.Or p a b) = of_both a b
safety_in (Expr-F.IsCase p e n k) = of_part e
safety_in (Expr-F.Case p n k content) = of_content content
safety_in _ = safety.MayFault

-- what the form of an expression tells of its evaluation: constants, variables and fields of them, comparisons of these
-- with constants, and their connections can't fault
unfoldable pub safety_of : Expr → Safety
safety_of = fold-Expr Safety (Unit {0}) (Unit {0}) safety_in (λ a. tt) (λ f. tt)

-- an expression that can't fault
abbrev pub cannot_fault : Safety → Bool
cannot_fault safety.MayFault = false
cannot_fault safety.CannotFault = true
cannot_fault safety.Constant = true
