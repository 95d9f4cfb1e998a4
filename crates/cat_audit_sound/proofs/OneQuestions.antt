-- That the questions of a guard stand where it does.
use Rattle.std.proofs.Common.{◌≡◌, ◌++◌, Option, Some, None}
use Rattle.std.proofs.Common.{refl, sym, subst}
use Rattle.cat_value.specs.declared.decls.Decls.{Decls}
use Rattle.cat_region.specs.declared.cut.Threshold.{Threshold}
use Rattle.cat_scope.specs.declared.expr.Expr.{Expr}
use Rattle.cat_scope.specs.declared.expr.Arm.{Arm}
use Rattle.cat_scope.specs.declared.expr.FieldValue.{FieldValue}
use Rattle.cat_scope.specs.declared.expr.Literal.{Literal}
use Rattle.cat_scope.specs.declared.expr.Literal.TheVariants as literal
use Rattle.cat_scope.specs.declared.expr.Expr.TheOpen.{Expr-F}
use Rattle.cat_scope.specs.declared.expr.Expr.TheViews.{out-Expr}
use Rattle.cat_scope.specs.declared.operators.UnaryOp.{UnaryOp}
use Rattle.cat_scope.specs.declared.operators.UnaryOp.TheVariants as unary
use Rattle.cat_scope.specs.declared.operators.BinaryOp.{BinaryOp}
use Rattle.cat_scope.specs.declared.operators.BinaryOp.TheVariants as binary
use Rattle.cat_scope.specs.Names.{AllHave}
use Rattle.cat_scope.specs.Same.{Standing}
use Rattle.cat_sound.proofs.Exported.{by_parts, parts_of}
use Rattle.cat_guard.specs.Formulas.{Formula, asked}
use Rattle.cat_guard.specs.Formulas as formula
use Rattle.cat_guard.specs.Comparisons.{Comparison, comparison_of, turned, parted, constant_of}
use Rattle.cat_guard.specs.Comparisons as comparison
use Rattle.cat_guard.specs.Questions.{Question, compared, operated, literal_guard, unary_guard}
use Rattle.cat_guard.specs.Questions.{binary_guard, guard_of, condition_guard}
use Rattle.cat_guard.proofs.Exported.{guard_at}
use Rattle.cat_scope.proofs.Exported.{all_append}

-- ---- where the questions of a guard stand

module _ (ds : Decls) (g : Standing) where
  abbrev Here : Question → Type 0
  Here q = q.standing ≡ g

  abbrev AreHere : Formula Question → Type 0
  AreHere f = AllHave Here (asked f)

  parted_here : (c : Comparison) (q r : Question) → Here q → Here r
      → AreHere (parted c (formula.Atom q) (formula.Atom r))
  parted_here comparison.Less q r h k = (h, tt)
  parted_here comparison.AtMost q r h k = (k, tt)
  parted_here comparison.Greater q r h k = (k, tt)
  parted_here comparison.AtLeast q r h k = (h, tt)
  parted_here comparison.Equal q r h k = (k, (h, tt))
  parted_here comparison.Unequal q r h k = (k, (h, tt))

  operated_here : (e a b : Expr) (c : Option Comparison) → AreHere (operated g e c a b)
  operated_here e a b None = (refl, tt)
  operated_here e a b (Some c) = by (constant_of a) (constant_of b)
    where
      by : (left right : Option Threshold) → AreHere (compared g e c a left b right)
      by left (Some s) = parted_here c _ _ refl refl
      by (Some s) None = parted_here (turned c) _ _ refl refl
      by None None = (refl, tt)

  binary_here : (e a b : Expr) (o : BinaryOp) (left right : Formula Question) → AreHere left → AreHere right
      → AreHere (binary_guard g e o a left b right)
  binary_here e a b binary.Xor left right h k = all_append Here (asked left) (asked right) h k
  binary_here e a b o left right h k = operated_here e a b (comparison_of o)

  unary_here : (e : Expr) (o : UnaryOp) (inner : Formula Question) → AreHere inner → AreHere (unary_guard g e o inner)
  unary_here e unary.Not inner h = h
  unary_here e _ inner h = (refl, tt)

  literal_here : (e : Expr) (l : Literal) → AreHere (literal_guard g e l)
  literal_here e (literal.Boolean b) = tt
  literal_here e _ = (refl, tt)

  guard_here : (e : Expr) → AreHere (guard_of ds g e)
  guard_here = by_parts (λ e. AreHere (guard_of ds g e)) by
    where
      by : (e : Expr) (y : Expr-F Expr Arm FieldValue) → out-Expr e ≡ y
          → AllHave (λ x. AreHere (guard_of ds g x)) (parts_of y) → AreHere (guard_of ds g e)
      by e (Expr-F.Literal p l) is h =
          subst AreHere (sym (guard_at ds g e (Expr-F.Literal p l) is)) (literal_here e l)
      by e (Expr-F.Unary p o a) is h =
          subst AreHere (sym (guard_at ds g e (Expr-F.Unary p o a) is)) (unary_here e o (guard_of ds g a) h.0)
      by e (Expr-F.Binary p o q a b) is h =
          subst AreHere (sym (guard_at ds g e (Expr-F.Binary p o q a b) is))
          (binary_here e a b o (guard_of ds g a) (guard_of ds g b) h.0 h.1.0)
      by e (Expr-F.And p a b) is h =
          subst AreHere (sym (guard_at ds g e (Expr-F.And p a b) is))
          (all_append Here (asked (guard_of ds g a)) (asked (guard_of ds g b)) h.0 h.1.0)
      by e (Expr-F.Or p a b) is h =
          subst AreHere (sym (guard_at ds g e (Expr-F.Or p a b) is))
          (all_append Here (asked (guard_of ds g a)) (asked (guard_of ds g b)) h.0 h.1.0)
      by e (Expr-F.If p c a b) is h =
          subst AreHere (sym (guard_at ds g e (Expr-F.If p c a b) is))
          (all_append Here (asked (guard_of ds g c) ++ asked (guard_of ds g a)) (asked (guard_of ds g b))
          (all_append Here (asked (guard_of ds g c)) (asked (guard_of ds g a)) h.0 h.1.0) h.1.1.0)
      by e (Expr-F.IsCase p a n k) is h =
          subst AreHere (sym (guard_at ds g e (Expr-F.IsCase p a n k) is)) (refl, tt)
      by e y is h = subst AreHere (sym (guard_at ds g e y is)) (refl, tt)

  pub condition_here : (o : Option Expr) → AreHere (condition_guard ds g o)
  condition_here None = tt
  condition_here (Some e) = guard_here e
