-- The questions of a typed condition are on dimensions that regions have, by cuts of their kinds.
use Rattle.std.proofs.Common.{◌≡◌, ◌≤◌, ℕ, zero, suc, true, nat_le, IsTrue, List, [], ◌∷◌, ◌++◌, length}
use Rattle.std.proofs.Common.{Option, Some, None, slice_get, refl, sym, ap, subst, arith}
use Rattle.std.proofs.lemmas.Bool.Decides.{nat_tests}
use Rattle.cat_num.specs.Numerals.{numeral_value}
use Rattle.cat_value.specs.declared.ty.Ty.{Ty}
use Rattle.cat_value.specs.declared.ty.Ty.TheVariants as flat_ty
use Rattle.cat_value.specs.declared.declaration.Enumeration.{Enumeration}
use Rattle.cat_region.specs.declared.cut.Threshold.{Threshold}
use Rattle.cat_region.specs.declared.cut.Threshold.TheVariants as threshold
use Rattle.cat_region.specs.declared.cut.Cut.TheVariants as cut
use Rattle.cat_region.specs.Points.{is_threshold, is_cut}
use Rattle.cat_region.specs.Regions.{is_dim}
use Rattle.cat_scope.specs.declared.expr.Literal.{Literal}
use Rattle.cat_scope.specs.declared.expr.Literal.TheVariants as literal
use Rattle.cat_scope.specs.declared.expr.Expr.{Expr}
use Rattle.cat_scope.specs.declared.expr.Arm.{Arm}
use Rattle.cat_scope.specs.declared.expr.FieldValue.{FieldValue}
use Rattle.cat_scope.specs.declared.expr.Expr.TheOpen.{Expr-F}
use Rattle.cat_scope.specs.declared.expr.Expr.TheViews.{out-Expr}
use Rattle.cat_scope.specs.declared.operators.UnaryOp.{UnaryOp}
use Rattle.cat_scope.specs.declared.operators.UnaryOp.TheVariants as unary
use Rattle.cat_scope.specs.declared.operators.BinaryOp.{BinaryOp}
use Rattle.cat_scope.specs.declared.operators.BinaryOp.TheVariants as binary
use Rattle.cat_scope.specs.Names.{Names, AllHave}
use Rattle.cat_scope.specs.Fitting.{cases_in}
use Rattle.cat_scope.specs.Literals.{literal_fits}
use Rattle.cat_scope.specs.Signatures.{taken_by}
use Rattle.cat_scope.specs.HasType.{HasType}
use Rattle.cat_scope.specs.WellFormed.{ConditionTyped}
use Rattle.cat_scope.specs.Same.{Standing}
use Rattle.cat_sound.specs.Parts.{PartsTyped}
use Rattle.cat_sound.proofs.Exported.{by_parts, parts_of, parts_typed}
use Rattle.cat_guard.specs.Formulas.{Formula, asked}
use Rattle.cat_guard.specs.Comparisons.{Comparison, comparison_of, turned, threshold_dim, constant_of, constant_in}
use Rattle.cat_guard.specs.Comparisons.{constant_under, literal_constant, negated_constant}
use Rattle.cat_guard.specs.Questions.{Question, ask_truth, against, compared, operated, literal_guard, unary_guard}
use Rattle.cat_guard.specs.Questions.{binary_guard, guard_of, condition_guard}
use Rattle.cat_guard.proofs.Exported.{guard_at, parted_all}
use Rattle.cat_audit_table.proofs.Bounds.{numeral_bound, negated_bound}
use Rattle.cat_scope.proofs.Exported.{all_append}

abbrev Form : Type 0
Form = Expr-F Expr Arm FieldValue

-- a question on a dimension that regions have, by a cut of its kind
pub record IsFit (q : Question) : Type 0 where
  pub dim : is_dim q.dim ≡ true
  pub cut : is_cut q.dim q.cut ≡ true

-- ---- constants

-- values of its dimension may be compared with a constant
abbrev IsFitConstant : Threshold → Type 0
IsFitConstant s = is_threshold (threshold_dim s) s ≡ true

abbrev or_threshold : Threshold → Option Threshold → Threshold
or_threshold s None = s
or_threshold s (Some r) = r

same_threshold : (s r : Threshold) → Some s ≡ Some r → s ≡ r
same_threshold s r e = ap (or_threshold s) e

literal_fit : (l : Literal) (s : Threshold) → IsTrue (literal_fits l) → literal_constant l ≡ Some s → IsFitConstant s
literal_fit (literal.Boolean b) s h e = absurd (cc)
literal_fit (literal.Duration span) s h e = absurd (cc)
literal_fit (literal.Integer n) s h e = subst IsFitConstant (same_threshold (threshold.Whole n) s e) refl
literal_fit (literal.Decimal d) s h e = subst IsFitConstant (same_threshold _ s e) (numeral_bound d h)
literal_fit (literal.Money n) s h e = subst IsFitConstant (same_threshold (threshold.Money n) s e) refl
literal_fit (literal.Date n) s h e = subst IsFitConstant (same_threshold (threshold.Day n) s e) refl

negated_fit : (o : UnaryOp) (l : Literal) (s : Threshold) → IsTrue (literal_fits l) → negated_constant o l ≡ Some s
    → IsFitConstant s
negated_fit unary.NegateInteger (literal.Integer n) s h e = subst IsFitConstant (same_threshold _ s e) refl
negated_fit unary.NegateInteger (literal.Boolean b) s h e = absurd (cc)
negated_fit unary.NegateInteger (literal.Decimal d) s h e = absurd (cc)
negated_fit unary.NegateInteger (literal.Money n) s h e = absurd (cc)
negated_fit unary.NegateInteger (literal.Date n) s h e = absurd (cc)
negated_fit unary.NegateInteger (literal.Duration n) s h e = absurd (cc)
negated_fit unary.NegateDecimal (literal.Decimal d) s h e =
    subst IsFitConstant (same_threshold _ s e) (negated_bound (numeral_value d) (numeral_bound d h))
negated_fit unary.NegateDecimal (literal.Boolean b) s h e = absurd (cc)
negated_fit unary.NegateDecimal (literal.Integer n) s h e = absurd (cc)
negated_fit unary.NegateDecimal (literal.Money n) s h e = absurd (cc)
negated_fit unary.NegateDecimal (literal.Date n) s h e = absurd (cc)
negated_fit unary.NegateDecimal (literal.Duration n) s h e = absurd (cc)
negated_fit unary.NegateMoney (literal.Money n) s h e = subst IsFitConstant (same_threshold _ s e) refl
negated_fit unary.NegateMoney (literal.Boolean b) s h e = absurd (cc)
negated_fit unary.NegateMoney (literal.Integer n) s h e = absurd (cc)
negated_fit unary.NegateMoney (literal.Decimal d) s h e = absurd (cc)
negated_fit unary.NegateMoney (literal.Date n) s h e = absurd (cc)
negated_fit unary.NegateMoney (literal.Duration n) s h e = absurd (cc)
negated_fit _ l s h e = absurd (cc)

module _ (ns : Names) (ps : List Ty) where
  typed_at : (e : Expr) (y : Form) → out-Expr e ≡ y → (t : Ty) → HasType ns ps e t → PartsTyped ns ps y t
  typed_at e y is t typed = subst (λ x. PartsTyped ns ps x t) is (parts_typed ns ps e t typed)

  under_fit : (a : Expr) (o : UnaryOp) (t : Ty) → HasType ns ps a t → (y : Form) → out-Expr a ≡ y → (s : Threshold)
      → constant_under o y ≡ Some s → IsFitConstant s
  under_fit a o t typed (Expr-F.Literal p l) is s e =
      negated_fit o l s (typed_at a (Expr-F.Literal p l) is t typed).0 e
  under_fit a o t typed _ is s e = absurd (cc)

  constant_fit_at : (e : Expr) (t : Ty) → HasType ns ps e t → (y : Form) → out-Expr e ≡ y → (s : Threshold)
      → constant_in y ≡ Some s → IsFitConstant s
  constant_fit_at e t typed (Expr-F.Literal p l) is s c =
      literal_fit l s (typed_at e (Expr-F.Literal p l) is t typed).0 c
  constant_fit_at e t typed (Expr-F.Unary p o a) is s c =
      under_fit a o (taken_by o) (typed_at e (Expr-F.Unary p o a) is t typed).0 (out-Expr a) refl s c
  constant_fit_at e t typed _ is s c = absurd (cc)

  constant_fit : (e : Expr) (t : Ty) → HasType ns ps e t → (s : Threshold) → constant_of e ≡ Some s → IsFitConstant s
  constant_fit e t typed s c = constant_fit_at e t typed (out-Expr e) refl s c

-- ---- conditions

module _ (ns : Names) (few : AllHave (λ (e : Enumeration). length e.cases ≤ 128) ns.decls.enumerations) (ps : List Ty)
    (g : Standing) where
  abbrev AreFit : Formula Question → Type 0
  AreFit f = AllHave IsFit (asked f)

  truth_fit : (e : Expr) → AreFit (ask_truth g e)
  truth_fit e = (record { dim = refl; cut = refl }, tt)

  threshold_is_dim : (s : Threshold) → is_dim (threshold_dim s) ≡ true
  threshold_is_dim (threshold.Whole n) = refl
  threshold_is_dim (threshold.Money n) = refl
  threshold_is_dim (threshold.Day n) = refl
  threshold_is_dim (threshold.Decimal f) = refl

  against_fit : (e : Expr) (c : Comparison) (s : Threshold) → IsFitConstant s → AreFit (against g e c s)
  against_fit e c s fit =
      parted_all IsFit c (record { standing = g; expr = e; dim = threshold_dim s; cut = cut.Below s })
      (record { standing = g; expr = e; dim = threshold_dim s; cut = cut.AtMost s })
      (record { dim = threshold_is_dim s; cut = fit }) (record { dim = threshold_is_dim s; cut = fit })

  compared_fit : (e : Expr) (c : Comparison) (a b : Expr) (t u : Ty) → HasType ns ps a t → HasType ns ps b u
      → (left : Option Threshold) → constant_of a ≡ left → (right : Option Threshold) → constant_of b ≡ right
      → AreFit (compared g e c a left b right)
  compared_fit e c a b t u typed_a typed_b left at_left (Some s) at_right =
      against_fit a c s (constant_fit ns ps b u typed_b s at_right)
  compared_fit e c a b t u typed_a typed_b (Some s) at_left None at_right =
      against_fit b (turned c) s (constant_fit ns ps a t typed_a s at_left)
  compared_fit e c a b t u typed_a typed_b None at_left None at_right = truth_fit e

  operated_fit : (e : Expr) (a b : Expr) (t u : Ty) → HasType ns ps a t → HasType ns ps b u
      → (c : Option Comparison) → AreFit (operated g e c a b)
  operated_fit e a b t u typed_a typed_b None = truth_fit e
  operated_fit e a b t u typed_a typed_b (Some c) =
      compared_fit e c a b t u typed_a typed_b (constant_of a) refl (constant_of b) refl

  -- of any expression that has a type
  abbrev IsAskedFit : Expr → Type 0
  IsAskedFit e = (t : Ty) → HasType ns ps e t → AreFit (guard_of ns.decls g e)

  binary_fit : (e : Expr) (o : BinaryOp) (a b : Expr) (t u : Ty) → HasType ns ps a t → HasType ns ps b u
      → IsAskedFit a → IsAskedFit b
      → AreFit (binary_guard g e o a (guard_of ns.decls g a) b (guard_of ns.decls g b))
  binary_fit e binary.Xor a b t u typed_a typed_b here there =
      all_append IsFit (asked (guard_of ns.decls g a)) (asked (guard_of ns.decls g b)) (here t typed_a)
      (there u typed_b)
  binary_fit e o a b t u typed_a typed_b here there = operated_fit e a b t u typed_a typed_b (comparison_of o)

  unary_fit : (e : Expr) (o : UnaryOp) (a : Expr) (t : Ty) → HasType ns ps a t → IsAskedFit a
      → AreFit (unary_guard g e o (guard_of ns.decls g a))
  unary_fit e unary.Not a t typed inner = inner t typed
  unary_fit e o a t typed inner = truth_fit e

  literal_asked : (e : Expr) (l : Literal) → AreFit (literal_guard g e l)
  literal_asked e (literal.Boolean b) = tt
  literal_asked e l = truth_fit e

  few_cases : (es : List Enumeration) → AllHave (λ (e : Enumeration). length e.cases ≤ 128) es → (n : ℕ)
      → nat_le (cases_in (slice_get es n)) 128 ≡ true
  few_cases [] h n = refl
  few_cases (e ∷ es) h zero = le_is (length e.cases) h.0
    where
      le_is : (k : ℕ) → k ≤ 128 → nat_le k 128 ≡ true
      le_is k h = grind (arith, nat_tests)
  few_cases (e ∷ es) h (suc n) = few_cases es h.1 n

  guard_fit : (e : Expr) → IsAskedFit e
  guard_fit = by_parts IsAskedFit (λ e y is inner t typed. by t e y is inner (typed_at ns ps e y is t typed))
    where
      by : (t : Ty) (e : Expr) (y : Form) → out-Expr e ≡ y → AllHave IsAskedFit (parts_of y) → PartsTyped ns ps y t
          → AreFit (guard_of ns.decls g e)
      by t e (Expr-F.Literal p l) is inner parts =
          subst AreFit (sym (guard_at ns.decls g e (Expr-F.Literal p l) is)) (literal_asked e l)
      by t e (Expr-F.Unary p o a) is inner parts =
          subst AreFit (sym (guard_at ns.decls g e (Expr-F.Unary p o a) is))
          (unary_fit e o a (taken_by o) parts.0 inner.0)
      by t e (Expr-F.Binary p o q a b) is inner parts =
          subst AreFit (sym (guard_at ns.decls g e (Expr-F.Binary p o q a b) is))
          (binary_fit e o a b parts.0.left parts.0.right parts.2 parts.3 inner.0 inner.1.0)
      by t e (Expr-F.And p a b) is inner parts =
          subst AreFit (sym (guard_at ns.decls g e (Expr-F.And p a b) is))
          (all_append IsFit (asked (guard_of ns.decls g a)) (asked (guard_of ns.decls g b))
          (inner.0 flat_ty.Boolean parts.0) (inner.1.0 flat_ty.Boolean parts.1))
      by t e (Expr-F.Or p a b) is inner parts =
          subst AreFit (sym (guard_at ns.decls g e (Expr-F.Or p a b) is))
          (all_append IsFit (asked (guard_of ns.decls g a)) (asked (guard_of ns.decls g b))
          (inner.0 flat_ty.Boolean parts.0) (inner.1.0 flat_ty.Boolean parts.1))
      by t e (Expr-F.If p c a b) is inner parts =
          subst AreFit (sym (guard_at ns.decls g e (Expr-F.If p c a b) is))
          (all_append IsFit (asked (guard_of ns.decls g c) ++ asked (guard_of ns.decls g a))
          (asked (guard_of ns.decls g b))
          (all_append IsFit (asked (guard_of ns.decls g c)) (asked (guard_of ns.decls g a))
          (inner.0 flat_ty.Boolean parts.0) (inner.1.0 t parts.1)) (inner.1.1.0 t parts.2))
      by t e (Expr-F.IsCase p a n k) is inner parts =
          subst AreFit (sym (guard_at ns.decls g e (Expr-F.IsCase p a n k) is))
          (record { dim = few_cases ns.decls.enumerations few n; cut = refl }, tt)
      by t e y is inner parts = subst AreFit (sym (guard_at ns.decls g e y is)) (truth_fit e)

  pub condition_fit : (o : Option Expr) → ConditionTyped ns ps o → AreFit (condition_guard ns.decls g o)
  condition_fit None typed = tt
  condition_fit (Some e) typed = guard_fit e flat_ty.Boolean typed
