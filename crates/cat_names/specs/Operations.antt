-- What literals and operators are, where their operands are known.
use Rattle.std.specs.Prelude.{ℤ, pos, ◌*ℤ◌, ◌&&◌, Option, Ok}
use Rattle.cat_pos.specs.declared.pos.Pos.{Pos}
use Rattle.cat_date.specs.Span.{SpanOf}
use Rattle.cat_value.specs.declared.ty.Ty.{Ty}
use Rattle.cat_value.specs.declared.ty.Ty.TheVariants as flat_ty
use Rattle.cat_value.specs.declared.ty.Ty.TheViews as ty
use Rattle.cat_tree.specs.declared.expression.Unit.{Unit as TimeUnit}
use Rattle.cat_tree.specs.declared.expression.Unit.TheVariants as unit
use Rattle.cat_tree.specs.declared.expression.SurfaceLiteral as tree
use Rattle.cat_tree.specs.declared.expression.SurfaceLiteral.TheVariants as written
use Rattle.cat_tree.specs.declared.expression.Operator.{Operator}
use Rattle.cat_tree.specs.declared.expression.Operator.TheVariants as operator
use Rattle.cat_tree.specs.declared.expression.Prefix.{Prefix}
use Rattle.cat_tree.specs.declared.expression.Prefix.TheVariants as prefix
use Rattle.cat_scope.specs.declared.expr.Literal.{Literal}
use Rattle.cat_scope.specs.declared.expr.Literal.TheVariants as literal
use Rattle.cat_scope.specs.declared.expr.Expr.{Expr}
use Rattle.cat_scope.specs.declared.expr.Expr.TheVariants as leaf
use Rattle.cat_scope.specs.declared.expr.Expr.TheViews as expr
use Rattle.cat_scope.specs.Literals.{literal_type, literal_fits}
use Rattle.cat_names.specs.declared.fault.Fault.TheVariants.{TypeMismatch}
use Rattle.cat_names.specs.declared.typed.Typed.{Typed}
use Rattle.cat_names.specs.Found.{Found, and_then, or_fault, where_true}
use Rattle.cat_names.specs.Types.{same, is_as_expected, element_of, flat_of, whole}
use Rattle.cat_names.specs.Rows.{operator_for, prefix_for, sum_for}
use Rattle.cat_names.specs.Naming.{typed}

-- an expression with its type; that this is not the type wanted stands at the operator
abbrev pub operated : Pos → Pos → Expr → Ty → Typed
operated first p e t = record { first = first; operator = p; expr = e; ty = t }

-- an expression, where it has the expected type
abbrev pub as_expected : Option Ty → Found Typed → Found Typed
as_expected expected found =
    and_then found (λ x. where_true (is_as_expected expected x.ty) (TypeMismatch x.operator) (Ok x))

-- so many years, months or days
abbrev pub span_written : ℤ → TimeUnit → SpanOf
span_written n unit.Year = record { months = pos 12 *ℤ n; days = pos 0 }
span_written n unit.Month = record { months = n; days = pos 0 }
span_written n unit.Day = record { months = pos 0; days = n }

-- the literal that is written; a percentage is a decimal
abbrev pub literal_written : tree.SurfaceLiteral → Literal
literal_written (written.Int n) = literal.Integer n
literal_written (written.Dec d) = literal.Decimal d
literal_written (written.Pct d) = literal.Decimal d
literal_written (written.Money cents) = literal.Money cents
literal_written (written.Date day) = literal.Date day
literal_written (written.Boolean b) = literal.Boolean b
literal_written (written.Span n u) = literal.Duration (span_written n u)

-- a literal, within its bound
abbrev pub literal_of : Pos → Literal → Found Typed
literal_of p l = where_true (literal_fits l) (TypeMismatch p) (Ok (typed p (leaf.Literal p l) (literal_type l)))

-- an operator between two operands
abbrev pub binary_of : Operator → Pos → Typed → Typed → Found Typed
binary_of operator.And p a b = where_true (same flat_ty.Boolean a.ty && same flat_ty.Boolean b.ty) (TypeMismatch p)
    (Ok (operated a.first p (expr.And a.first a.expr b.expr) flat_ty.Boolean))
binary_of operator.Or p a b = where_true (same flat_ty.Boolean a.ty && same flat_ty.Boolean b.ty) (TypeMismatch p)
    (Ok (operated a.first p (expr.Or a.first a.expr b.expr) flat_ty.Boolean))
binary_of operator.Contains p l e =
    and_then (or_fault (TypeMismatch p) (flat_of e.ty)) (λ t.
    where_true (same (ty.List (whole t)) l.ty) (TypeMismatch p)
    (Ok (operated l.first p (expr.Contains l.first p l.expr e.expr) flat_ty.Boolean)))
binary_of o p a b =
    and_then (or_fault (TypeMismatch p) (operator_for o a.ty b.ty)) (λ row.
    Ok (operated a.first p (expr.Binary a.first row.0 p a.expr b.expr) (whole row.1)))

-- a prefix before an operand; `number of` takes a list
abbrev pub prefixed_of : Prefix → Pos → Typed → Found Typed
prefixed_of prefix.NumberOf p l = and_then (or_fault (TypeMismatch p) (element_of l.ty)) (λ t.
    Ok (typed p (expr.Length p l.expr) flat_ty.Integer))
prefixed_of o p e = and_then (or_fault (TypeMismatch p) (prefix_for o e.ty)) (λ row.
    Ok (typed p (expr.Unary p row.0 e.expr) (whole row.1)))

-- a sum of a list of that type, where its elements can be added
abbrev pub sum_of : Pos → Ty → Typed → Found Typed
sum_of p t l = and_then (or_fault (TypeMismatch p) (sum_for t)) (λ kind.
    where_true (same (ty.List t) l.ty) (TypeMismatch p) (Ok (typed p (expr.Sum p kind l.expr) t)))
