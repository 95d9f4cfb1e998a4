-- Worked examples: sources of one scope, each with what stands against it, or with what it means.
use Rattle.std.proofs.Common.{◌≡◌, pos, true, [], ◌∷◌, None, Ok, rules}
use Rattle.cat_value.specs.declared.ty.Ty.TheVariants as flat_ty
use Rattle.cat_tree.specs.declared.name.Base.TheVariants as base
use Rattle.cat_tree.specs.declared.expression.SurfaceLiteral.TheVariants as literal
use Rattle.cat_tree.specs.declared.expression.Operator.TheVariants as operator
use Rattle.cat_tree.specs.declared.expression.Unit.TheVariants as unit
use Rattle.cat_tree.specs.declared.expression.Node.{Node}
use Rattle.cat_tree.specs.declared.expression.Node.TheVariants as leaf
use Rattle.cat_tree.specs.declared.expression.Node.TheViews as node
use Rattle.cat_tree.specs.declared.program.Tree.{Tree}
use Rattle.cat_date.specs.declared.rounding.Rounding.TheVariants.{Refuse}
use Rattle.cat_scope.specs.declared.operators.BinaryOp.TheVariants.{Less}
use Rattle.cat_scope.specs.declared.expr.Literal.TheVariants as value
use Rattle.cat_scope.specs.declared.expr.Expr.TheVariants as leaf_expr
use Rattle.cat_scope.specs.declared.expr.Expr.TheViews as expr
use Rattle.cat_scope.specs.declared.defs.Except.TheVariants as except
use Rattle.cat_scope.specs.declared.defs.SourcePart.TheVariants as part
use Rattle.cat_scope.proofs.Exported.{namings}
use Rattle.cat_names.specs.declared.fault.Fault.TheVariants.{NameUnknown, TypeMismatch, Misplaced}
use Rattle.cat_names.specs.Found.{faulty}
use Rattle.cat_names.specs.NameFaults.{name_faults}
use Rattle.cat_names.specs.Bodies.{bodies_meant}
use Rattle.cat_names.proofs.TypeEquations.{views}
use Rattle.cat_names.proofs.Equations.{forms}
use Rattle.cat_names.proofs.UnknownEquations.{unknowns}
use Rattle.cat_names.proofs.Samples.{at, name, local, whole, n, q, x, definition, head_of, head_decls, HeadSound}

-- `definition x equals e`
abbrev tree_of : Node → Tree
tree_of e = head_of base.Integer (definition (at 6 3) (name x (at 6 14)) e ∷ [])

-- `definition x equals true`
pub a_truth_value_is_no_integer : (sound : HeadSound flat_ty.Integer)
    → bodies_meant (head_decls flat_ty.Integer sound) (tree_of (leaf.Literal (literal.Boolean true) (at 6 23)))
    ≡ faulty (TypeMismatch (at 6 23))
a_truth_value_is_no_integer sound = search (rules, forms, views)

-- `definition x equals q`
pub an_unknown_name_stands_where_it_is : name_faults (tree_of (local q (at 6 23))) ≡ NameUnknown (at 6 23) ∷ []
an_unknown_name_stands_where_it_is = search (rules, unknowns)

-- `definition n equals 1`, where n is an input
an_input_is_not_defined : (sound : HeadSound flat_ty.Integer)
    → bodies_meant (head_decls flat_ty.Integer sound)
    (head_of base.Integer (definition (at 6 3) (name n (at 6 14)) (whole 1 (at 6 23)) ∷ []))
    ≡ faulty (Misplaced (at 6 14))
an_input_is_not_defined sound = search (rules, forms, views)

-- `definition x equals 1 month < 31 day`, where x is a boolean: it has a type, whatever comes of it in a run
abbrev months_and_days : Node
months_and_days = node.Binary operator.Less (at 6 31) (leaf.Literal (literal.Span (pos 1) unit.Month) (at 6 23))
    (leaf.Literal (literal.Span (pos 31) unit.Day) (at 6 33))

durations_are_compared : (sound : HeadSound flat_ty.Boolean)
    → bodies_meant (head_decls flat_ty.Boolean sound)
    (head_of base.Boolean (definition (at 6 3) (name x (at 6 14)) months_and_days ∷ []))
    ≡ Ok (record {
      defs = record {
        target = record { scope = 0; item = 1; inner = None };
        label = None;
        except = except.No;
        condition = None;
        consequence = expr.Binary (at 6 23) Less (at 6 31)
            (leaf_expr.Literal (at 6 23) (value.Duration (record { months = pos 1; days = pos 0 })))
            (leaf_expr.Literal (at 6 33) (value.Duration (record { months = pos 0; days = pos 31 })));
        params = 0;
        pos = at 6 3;
      } ∷ [];
      assertions = [];
      source = part.Declaration ∷ part.Definition ∷ [];
      rounding = Refuse;
      calls = [];
    } ∷ [])
durations_are_compared sound = search (rules, forms, views, namings)
