-- The type of each form of expression.
use Rattle.std.specs.Prelude.{ℕ, List, [], ◌∷◌, ◌++◌, Option, None, slice_get}
use Rattle.cat_value.specs.declared.ty.Ty.{Ty}
use Rattle.cat_value.specs.declared.ty.Ty.TheVariants as flat
use Rattle.cat_value.specs.declared.ty.Ty.TheViews as ty
use Rattle.cat_value.specs.declared.ty.Ty.TheViews.{out-Ty}
use Rattle.cat_scope.specs.declared.expr.ArmPattern.{ArmPattern}
use Rattle.cat_scope.specs.declared.expr.Expr.TheOpen.{Expr-F}
use Rattle.cat_scope.specs.Signatures.{signatures_of, given_by, summed_type}
use Rattle.cat_scope.specs.Literals.{literal_type}
use Rattle.cat_scope.specs.Names.{Names, output_at}
use Rattle.cat_lower.specs.Types.{Lowering, type_or, item_type, element_type, enumeration_in, field_in, called_output}
use Rattle.cat_lower.specs.Types.{scope_called, row_type, arms_type, result_of}

-- the type of an expression, where each part is lowered in its place
abbrev pub type_by : Names → Expr-F Lowering (ArmPattern × Lowering) (ℕ × Lowering) → List Ty → Option Ty → Ty
type_by names (Expr-F.Literal p l) locals expected = literal_type l
type_by names (Expr-F.Item p k) locals expected = item_type (slice_get names.items k)
type_by names (Expr-F.Output p item k) locals expected =
    item_type (called_output names.decls k (scope_called (slice_get names.items item)))
type_by names (Expr-F.Local p k) locals expected = type_or (slice_get locals k)
type_by names (Expr-F.Field p e k) locals expected = field_in names.decls k (out-Ty (e.type locals None))
type_by names (Expr-F.Unary p o e) locals expected = given_by o
type_by names (Expr-F.Binary p o q a b) locals expected = result_of (signatures_of o)
type_by names (Expr-F.And p a b) locals expected = flat.Boolean
type_by names (Expr-F.Or p a b) locals expected = flat.Boolean
type_by names (Expr-F.If p c a b) locals expected = a.type locals expected
type_by names (Expr-F.Match p e arms) locals expected =
    arms_type names.decls (enumeration_in (out-Ty (e.type locals None))) arms locals expected
type_by names (Expr-F.IsCase p e n k) locals expected = flat.Boolean
type_by names (Expr-F.Case p n k content) locals expected = flat.Enumeration n
type_by names (Expr-F.Structure p n fields) locals expected = flat.Structure n
type_by names (Expr-F.List p es) locals expected = row_type es locals expected
type_by names (Expr-F.ForAll p l test) locals expected = flat.Boolean
type_by names (Expr-F.Exists p l test) locals expected = flat.Boolean
type_by names (Expr-F.Map p l e) locals expected =
    ty.List (e.type (locals ++ element_type (l.type locals None) ∷ []) None)
type_by names (Expr-F.Filter p l test) locals expected = l.type locals None
type_by names (Expr-F.Combine p l start e) locals expected = start.type locals None
type_by names (Expr-F.Contains p q l e) locals expected = flat.Boolean
type_by names (Expr-F.Length p l) locals expected = flat.Integer
type_by names (Expr-F.Sum p kind l) locals expected = summed_type kind
type_by names (Expr-F.Call p f es) locals expected = item_type (slice_get names.items f)
type_by names (Expr-F.ScopeCall p s fields k) locals expected = item_type (output_at names.decls s k)
