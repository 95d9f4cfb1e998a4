-- The guard of a condition: connectives over questions, each a cut of a term.
use Rattle.std.specs.Prelude.{true, Option, Some, None, slice_get}
use Rattle.cat_value.specs.declared.decls.Decls.{Decls}
use Rattle.cat_region.specs.declared.dim.Dim.{Dim}
use Rattle.cat_region.specs.declared.dim.Dim.TheVariants as dim
use Rattle.cat_region.specs.declared.cut.Cut.{Cut}
use Rattle.cat_region.specs.declared.cut.Threshold.{Threshold}
use Rattle.cat_region.specs.declared.cut.Cut.TheVariants as cut
use Rattle.cat_scope.specs.declared.expr.Literal.{Literal}
use Rattle.cat_scope.specs.declared.expr.Literal.TheVariants as literal
use Rattle.cat_scope.specs.declared.expr.Expr.{Expr}
use Rattle.cat_scope.specs.declared.expr.Arm.{Arm}
use Rattle.cat_scope.specs.declared.expr.FieldValue.{FieldValue}
use Rattle.cat_scope.specs.declared.expr.Expr.TheOpen.{Expr-F}
use Rattle.cat_scope.specs.declared.expr.Expr.TheViews.{out-Expr}
use Rattle.cat_scope.specs.declared.expr.Expr.TheFolds.{fold-Expr}
use Rattle.cat_scope.specs.declared.operators.UnaryOp.{UnaryOp}
use Rattle.cat_scope.specs.declared.operators.UnaryOp.TheVariants as unary
use Rattle.cat_scope.specs.declared.operators.BinaryOp.{BinaryOp}
use Rattle.cat_scope.specs.declared.operators.BinaryOp.TheVariants as binary
use Rattle.cat_scope.specs.Fitting.{cases_in}
use Rattle.cat_scope.specs.Same.{Standing}
use Rattle.cat_guard.specs.Formulas.{Formula}
use Rattle.cat_guard.specs.Formulas as formula
use Rattle.cat_guard.specs.Comparisons.{Comparison, comparison_of, turned, parted, threshold_dim, constant_of}

-- a cut of a term: of an expression in the definitions of a function or of a variable, with the dimension of its values
pub record Question : Type 0 where
  pub standing : Standing
  pub expr : Expr
  pub dim : Dim
  pub cut : Cut

-- one question alone
abbrev pub ask : Standing → Expr → Dim → Cut → Formula Question
ask g e d c = formula.Atom (record { standing = g; expr = e; dim = d; cut = c })

-- whether a condition is true that is not taken apart further
abbrev pub ask_truth : Standing → Expr → Formula Question
ask_truth g e = ask g e dim.Truth cut.IsTrue

-- an expression compared with a constant on its right
abbrev pub against : Standing → Expr → Comparison → Threshold → Formula Question
against g e c s = parted c (ask g e (threshold_dim s) (cut.Below s)) (ask g e (threshold_dim s) (cut.AtMost s))

-- a comparison of two expressions: with the constant on the right, and else with the one on the left, turned round
abbrev pub compared : Standing → Expr → Comparison → Expr → Option Threshold → Expr → Option Threshold
    → Formula Question
compared g e c a left b (Some s) = against g a c s
compared g e c a (Some s) b None = against g b (turned c) s
compared g e c a None b None = ask_truth g e

-- an operator that compares
abbrev pub operated : Standing → Expr → Option Comparison → Expr → Expr → Formula Question
operated g e None a b = ask_truth g e
operated g e (Some c) a b = compared g e c a (constant_of a) b (constant_of b)

-- a literal
abbrev pub literal_guard : Standing → Expr → Literal → Formula Question
literal_guard g e (literal.Boolean b) = formula.Constant b
literal_guard g e _ = ask_truth g e

-- an operator before a condition
abbrev pub unary_guard : Standing → Expr → UnaryOp → Formula Question → Formula Question
unary_guard g e unary.Not inner = formula.Not inner
unary_guard g e _ inner = ask_truth g e

-- an operator between two expressions
abbrev pub binary_guard : Standing → Expr → BinaryOp → Expr → Formula Question → Expr → Formula Question
    → Formula Question
binary_guard g e binary.Xor a left b right = formula.Differ left right
binary_guard g e o a left b right = operated g e (comparison_of o) a b

-- the guard of an expression e, which is given twice by its form: with the guard of each part as a function of this
-- part, and with the parts themselves
abbrev pub guard_in : Decls → Standing → Expr-F (Expr → Formula Question) (Unit {0}) (Unit {0}) → Expr
    → Expr-F Expr Arm FieldValue → Formula Question
guard_in ds g (Expr-F.Literal p l) e y = literal_guard g e l
guard_in ds g (Expr-F.Unary p o inner) e (Expr-F.Unary q u a) = unary_guard g e o (inner a)
guard_in ds g (Expr-F.And p left right) e (Expr-F.And q a b) = formula.Both (left a) (right b)
guard_in ds g (Expr-F.Or p left right) e (Expr-F.Or q a b) = formula.Either (left a) (right b)
guard_in ds g (Expr-F.If p test one other) e (Expr-F.If q c a b) = formula.Choice (test c) (one a) (other b)
guard_in ds g (Expr-F.Binary p o r left right) e (Expr-F.Binary q u s a b) = binary_guard g e o a (left a) b (right b)
guard_in ds g (Expr-F.IsCase p inner n k) e (Expr-F.IsCase q a m j) =
    ask g a (dim.Cases (cases_in (slice_get ds.enumerations n))) (cut.IsCase k)
guard_in ds g x e y = ask_truth g e

-- the guard of an expression, as a function of this expression
unfoldable pub guard_as : Decls → Standing → Expr → Expr → Formula Question
guard_as ds g =
    fold-Expr (Expr → Formula Question) (Unit {0}) (Unit {0}) (λ x e. guard_in ds g x e (out-Expr e)) (λ a. tt)
    (λ f. tt)

-- the guard of an expression in the definitions of a function or of a variable
abbrev pub guard_of : Decls → Standing → Expr → Formula Question
guard_of ds g e = guard_as ds g e e

-- the guard of a condition: true where there is none
abbrev pub condition_guard : Decls → Standing → Option Expr → Formula Question
condition_guard ds g None = formula.Constant true
condition_guard ds g (Some e) = guard_of ds g e
