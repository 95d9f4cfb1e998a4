-- The questions of a typed condition: each is of a term of a type, whose dimension it has.
use Rattle.std.proofs.Common.{◌≡◌, true, false, IsTrue, List, [], ◌∷◌, ◌++◌, Option, Some, None, slice_get}
use Rattle.std.proofs.Common.{refl}
use Rattle.std.proofs.Common.{sym, ap, ◌∙◌, subst, arith, true≢false, ℕ, length, nat_lt}
use Rattle.std.proofs.lemmas.Bool.Decides.{nat_tests}
use Rattle.cat_num.specs.Frac.{gcd}
use Rattle.cat_date.specs.declared.rounding.Rounding.TheVariants.{Up}
use Rattle.cat_value.specs.declared.ty.Ty.{Ty}
use Rattle.cat_value.specs.declared.ty.Ty.TheVariants as flat_ty
use Rattle.cat_value.specs.declared.ty.Ty.TheViews as ty
use Rattle.cat_value.specs.declared.decls.Decls.{Decls}
use Rattle.cat_value.specs.declared.declaration.Case.{Case}
use Rattle.cat_value.specs.declared.declaration.Enumeration.{Enumeration}
use Rattle.cat_value.specs.Entries.{some_passes, content_in, case_in}
use Rattle.cat_region.specs.declared.cut.Threshold.{Threshold}
use Rattle.cat_region.specs.declared.cut.Threshold.TheVariants as threshold
use Rattle.cat_region.specs.declared.cut.Cut.{Cut}
use Rattle.cat_region.specs.declared.cut.Cut.TheVariants as cut
use Rattle.cat_region.specs.Points.{is_point, default_point}
use Rattle.cat_scope.specs.declared.stop.Stop.TheVariants.{Stuck}
use Rattle.cat_scope.specs.declared.expr.Literal.{Literal}
use Rattle.cat_scope.specs.declared.expr.Literal.TheVariants as literal
use Rattle.cat_scope.specs.declared.expr.Expr.{Expr}
use Rattle.cat_scope.specs.declared.expr.Expr.TheOpen.{Expr-F}
use Rattle.cat_scope.specs.declared.expr.Expr.TheViews.{out-Expr}
use Rattle.cat_scope.specs.declared.operators.UnaryOp.{UnaryOp}
use Rattle.cat_scope.specs.declared.operators.UnaryOp.TheVariants as unary
use Rattle.cat_scope.specs.declared.operators.BinaryOp.{BinaryOp}
use Rattle.cat_scope.specs.declared.operators.BinaryOp.TheVariants as binary
use Rattle.cat_scope.specs.Runs.{stops}
use Rattle.cat_scope.specs.Names.{Names, AllHave, IsOneOf}
use Rattle.cat_scope.specs.Fitting.{cases_in, has_case}
use Rattle.cat_scope.specs.Signatures.{Signature, signatures_of, taken_by}
use Rattle.cat_scope.specs.HasType.{HasType}
use Rattle.cat_scope.specs.WellFormed.{ConditionTyped}
use Rattle.cat_scope.specs.Same.{Standing}
use Rattle.cat_scope.specs.Eval.{Env}
use Rattle.cat_sound.specs.Parts.{PartsTyped}
use Rattle.cat_sound.proofs.Exported.{by_parts, parts_of}
use Rattle.cat_guard.specs.Formulas.{Formula, asked}
use Rattle.cat_guard.specs.Comparisons.{Comparison, comparison_of, turned, threshold_dim, constant_of}
use Rattle.cat_guard.specs.Questions.{Question, ask_truth, against, compared, operated, literal_guard, unary_guard}
use Rattle.cat_guard.specs.Questions.{binary_guard, guard_of, condition_guard}
use Rattle.cat_guard.specs.PointValues.{dim_of, dim_in}
use Rattle.cat_guard.proofs.Exported.{guard_at, parted_all}
use Rattle.cat_audit_sound.proofs.Constants.{Form, typed_at, threshold_type, constant_is}
use Rattle.cat_audit_sound.proofs.GuardTells.{compared_alike, xor_signature}
use Rattle.cat_scope.proofs.Exported.{all_append}

-- a question on an expression of a type under some parameters
pub record IsAskedOf (ns : Names) (ps : List Ty) (g : Standing) (q : Question) : Type 0 where
  pub ty : Ty
  pub standing_is : q.standing ≡ g
  pub typed : HasType ns ps q.expr ty
  pub dim_is : dim_of ns.decls ty ≡ Some q.dim
  pub inhabited : IsTrue (is_point q.dim (default_point q.dim))

threshold_dim_is : (ds : Decls) (s : Threshold) → dim_of ds (threshold_type s) ≡ Some (threshold_dim s)
threshold_dim_is ds (threshold.Whole n) = ap (dim_in ds) ty.outs-Integer
threshold_dim_is ds (threshold.Money n) = ap (dim_in ds) ty.outs-Money
threshold_dim_is ds (threshold.Day n) = ap (dim_in ds) ty.outs-Date
threshold_dim_is ds (threshold.Decimal f) = ap (dim_in ds) ty.outs-Decimal

threshold_inhabited : (s : Threshold) → IsTrue (is_point (threshold_dim s) (default_point (threshold_dim s)))
unfolding gcd
threshold_inhabited (threshold.Whole n) = refl
threshold_inhabited (threshold.Money n) = refl
threshold_inhabited (threshold.Day n) = refl
threshold_inhabited (threshold.Decimal f) = refl

-- an environment without anything
abbrev nowhere : Env
nowhere = record {
  rounding = Up;
  items = [];
  call = λ f arguments. stops Stuck;
  scope_call = λ s fields k. stops Stuck;
}

cases_inhabited : (ds : Decls) (n k : ℕ) → IsTrue (has_case ds n k)
    → IsTrue (nat_lt 0 (cases_in (slice_get ds.enumerations n)))
cases_inhabited ds n k h = by (slice_get ds.enumerations n) h
  where
    some : (cases : List Case) → IsTrue (some_passes (λ content. true) (content_in (slice_get cases k)))
        → IsTrue (nat_lt 0 (length cases))
    some [] h = absurd (true≢false (sym h))
    some (c ∷ cases) h = grind (arith, nat_tests)

    by : (o : Option Enumeration) → IsTrue (some_passes (λ content. true) (case_in k o))
        → IsTrue (nat_lt 0 (cases_in o))
    by None h = absurd (true≢false (sym h))
    by (Some e) h = some e.cases h

module _ (ns : Names) (ps : List Ty) (g : Standing) where
  abbrev AreAsked : Formula Question → Type 0
  AreAsked f = AllHave (IsAskedOf ns ps g) (asked f)

  truth_asked : (e : Expr) → HasType ns ps e flat_ty.Boolean → AreAsked (ask_truth g e)
  truth_asked e typed = (
    record {
      ty = flat_ty.Boolean;
      standing_is = refl;
      typed = typed;
      dim_is = ap (dim_in ns.decls) ty.outs-Boolean;
      inhabited = refl;
    },
    tt,
  )

  threshold_asked : (e : Expr) (s : Threshold) (c : Cut) → HasType ns ps e (threshold_type s)
      → IsAskedOf ns ps g (record { standing = g; expr = e; dim = threshold_dim s; cut = c })
  threshold_asked e s c typed = record {
    ty = threshold_type s;
    standing_is = refl;
    typed = typed;
    dim_is = threshold_dim_is ns.decls s;
    inhabited = threshold_inhabited s;
  }

  against_asked : (e : Expr) (c : Comparison) (s : Threshold) → HasType ns ps e (threshold_type s)
      → AreAsked (against g e c s)
  against_asked e c s typed =
      parted_all (IsAskedOf ns ps g) c _ _ (threshold_asked e s (cut.Below s) typed)
      (threshold_asked e s (cut.AtMost s) typed)

  compared_asked : (e : Expr) (c : Comparison) (o : BinaryOp) → comparison_of o ≡ Some c → (r : Signature)
      → IsOneOf r (signatures_of o) → (a b : Expr) → HasType ns ps a r.left → HasType ns ps b r.right
      → HasType ns ps e flat_ty.Boolean → (left : Option Threshold) → constant_of a ≡ left
      → (right : Option Threshold) → constant_of b ≡ right → AreAsked (compared g e c a left b right)
  compared_asked e c o reads r one a b typed_a typed_b typed left at_left (Some s) at_right =
      let k = constant_is ns ps nowhere [] b r.right s at_right typed_b in
      against_asked a c s (subst (HasType ns ps a) (compared_alike o c reads r one ∙ k.ty) typed_a)
  compared_asked e c o reads r one a b typed_a typed_b typed (Some s) at_left None at_right =
      let k = constant_is ns ps nowhere [] a r.left s at_left typed_a in
      against_asked b (turned c) s (subst (HasType ns ps b) (sym (compared_alike o c reads r one) ∙ k.ty) typed_b)
  compared_asked e c o reads r one a b typed_a typed_b typed None at_left None at_right = truth_asked e typed

  operated_asked : (e : Expr) (o : BinaryOp) (r : Signature) → IsOneOf r (signatures_of o) → (a b : Expr)
      → HasType ns ps a r.left → HasType ns ps b r.right → HasType ns ps e flat_ty.Boolean
      → (c : Option Comparison) → comparison_of o ≡ c → AreAsked (operated g e c a b)
  operated_asked e o r one a b typed_a typed_b typed None reads = truth_asked e typed
  operated_asked e o r one a b typed_a typed_b typed (Some c) reads =
      compared_asked e c o reads r one a b typed_a typed_b typed (constant_of a) refl (constant_of b) refl

  abbrev IsAskedTyped : Expr → Type 0
  IsAskedTyped e = HasType ns ps e flat_ty.Boolean → AreAsked (guard_of ns.decls g e)

  binary_asked : (e : Expr) (o : BinaryOp) (r : Signature) → IsOneOf r (signatures_of o) → (a b : Expr)
      → HasType ns ps a r.left → HasType ns ps b r.right → HasType ns ps e flat_ty.Boolean
      → IsAskedTyped a → IsAskedTyped b
      → AreAsked (binary_guard g e o a (guard_of ns.decls g a) b (guard_of ns.decls g b))
  binary_asked e binary.Xor r one a b typed_a typed_b typed here there =
      let sides = xor_signature r one in
      all_append (IsAskedOf ns ps g) (asked (guard_of ns.decls g a)) (asked (guard_of ns.decls g b))
      (here (subst (HasType ns ps a) sides.0 typed_a)) (there (subst (HasType ns ps b) sides.1 typed_b))
  binary_asked e o r one a b typed_a typed_b typed here there =
      operated_asked e o r one a b typed_a typed_b typed (comparison_of o) refl

  unary_asked : (e : Expr) (o : UnaryOp) (a : Expr) → HasType ns ps e flat_ty.Boolean
      → (o ≡ unary.Not → HasType ns ps a flat_ty.Boolean) → IsAskedTyped a
      → AreAsked (unary_guard g e o (guard_of ns.decls g a))
  unary_asked e unary.Not a typed typed_a inner = inner (typed_a refl)
  unary_asked e o a typed typed_a inner = truth_asked e typed

  literal_asked : (e : Expr) (l : Literal) → HasType ns ps e flat_ty.Boolean → AreAsked (literal_guard g e l)
  literal_asked e (literal.Boolean b) typed = tt
  literal_asked e l typed = truth_asked e typed

  pub guard_asked : (e : Expr) → IsAskedTyped e
  guard_asked = by_parts IsAskedTyped (λ e y is inner typed.
      by e y is inner typed (typed_at ns ps e y is flat_ty.Boolean typed))
    where
      by : (e : Expr) (y : Form) → out-Expr e ≡ y → AllHave IsAskedTyped (parts_of y) → HasType ns ps e flat_ty.Boolean
          → PartsTyped ns ps y flat_ty.Boolean → AreAsked (guard_of ns.decls g e)
      by e (Expr-F.Literal p l) is inner typed parts =
          subst AreAsked (sym (guard_at ns.decls g e (Expr-F.Literal p l) is)) (literal_asked e l typed)
      by e (Expr-F.Unary p o a) is inner typed parts =
          subst AreAsked (sym (guard_at ns.decls g e (Expr-F.Unary p o a) is))
          (unary_asked e o a typed (λ same. subst (λ (x : UnaryOp). HasType ns ps a (taken_by x)) same parts.0) inner.0)
      by e (Expr-F.Binary p o q a b) is inner typed parts =
          subst AreAsked (sym (guard_at ns.decls g e (Expr-F.Binary p o q a b) is))
          (binary_asked e o parts.0 parts.1 a b parts.2 parts.3 typed inner.0 inner.1.0)
      by e (Expr-F.And p a b) is inner typed parts =
          subst AreAsked (sym (guard_at ns.decls g e (Expr-F.And p a b) is))
          (all_append (IsAskedOf ns ps g) (asked (guard_of ns.decls g a)) (asked (guard_of ns.decls g b))
          (inner.0 parts.0) (inner.1.0 parts.1))
      by e (Expr-F.Or p a b) is inner typed parts =
          subst AreAsked (sym (guard_at ns.decls g e (Expr-F.Or p a b) is))
          (all_append (IsAskedOf ns ps g) (asked (guard_of ns.decls g a)) (asked (guard_of ns.decls g b))
          (inner.0 parts.0) (inner.1.0 parts.1))
      by e (Expr-F.If p c a b) is inner typed parts =
          subst AreAsked (sym (guard_at ns.decls g e (Expr-F.If p c a b) is))
          (all_append (IsAskedOf ns ps g) (asked (guard_of ns.decls g c) ++ asked (guard_of ns.decls g a))
          (asked (guard_of ns.decls g b))
          (all_append (IsAskedOf ns ps g) (asked (guard_of ns.decls g c)) (asked (guard_of ns.decls g a))
          (inner.0 parts.0) (inner.1.0 parts.1)) (inner.1.1.0 parts.2))
      by e (Expr-F.IsCase p a n k) is inner typed parts =
          subst AreAsked (sym (guard_at ns.decls g e (Expr-F.IsCase p a n k) is)) (
            record {
              ty = flat_ty.Enumeration n;
              standing_is = refl;
              typed = parts.0;
              dim_is = ap (dim_in ns.decls) (ty.outs-Enumeration n);
              inhabited = cases_inhabited ns.decls n k parts.1;
            },
            tt,
          )
      by e y is inner typed parts =
          subst AreAsked (sym (guard_at ns.decls g e y is)) (truth_asked e typed)

  pub condition_asked : (o : Option Expr) → ConditionTyped ns ps o → AreAsked (condition_guard ns.decls g o)
  condition_asked None typed = tt
  condition_asked (Some e) typed = guard_asked e typed
