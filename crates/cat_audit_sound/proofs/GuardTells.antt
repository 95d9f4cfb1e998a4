-- A condition that gives a truth value gives that of its guard.
use Rattle.std.proofs.Common.{◌≡◌, inl, inr, Bool, true, false, IsTrue, List, [], ◌∷◌, map, Option, Some, None}
use Rattle.std.proofs.Common.{Ok, Err, slice_get, refl, sym, ap, ◌∙◌, subst, arith, true≢false, nat_eq, nat_lt}
use Rattle.std.proofs.Common.{ℕ, zero, suc, length, if◌then◌else◌}
use Rattle.std.proofs.lemmas.Bool.Decides.{nat_tests}
use Rattle.cat_pos.specs.declared.pos.Pos.{Pos}
use Rattle.cat_value.specs.declared.ty.Ty.{Ty}
use Rattle.cat_value.specs.declared.ty.Ty.TheVariants as flat_ty
use Rattle.cat_value.specs.declared.value.Value.{Value}
use Rattle.cat_value.specs.declared.value.Value.TheVariants as flat
use Rattle.cat_value.specs.declared.value.Value.TheViews as value
use Rattle.cat_value.specs.declared.decls.Decls.{Decls}
use Rattle.cat_value.specs.declared.declaration.Case.{Case}
use Rattle.cat_value.specs.declared.declaration.Enumeration.{Enumeration}
use Rattle.cat_value.specs.Entries.{some_passes, content_in, case_in}
use Rattle.cat_value.specs.Typing.{is_case, content_has_type}
use Rattle.cat_value.proofs.Exported.{boolean_value, case_value}
use Rattle.cat_region.specs.declared.cut.Threshold.{Threshold}
use Rattle.cat_region.specs.declared.dim.Dim.TheVariants as dim
use Rattle.cat_region.specs.declared.cut.Cut.TheVariants as cut
use Rattle.cat_region.specs.declared.point.Point.TheVariants as point
use Rattle.cat_region.specs.Points.{is_point, answer, default_point}
use Rattle.cat_scope.specs.declared.expr.Literal.{Literal}
use Rattle.cat_scope.specs.declared.expr.Literal.TheVariants as literal
use Rattle.cat_scope.specs.declared.expr.Expr.{Expr}
use Rattle.cat_scope.specs.declared.expr.Expr.TheOpen.{Expr-F}
use Rattle.cat_scope.specs.declared.expr.Expr.TheViews.{out-Expr}
use Rattle.cat_scope.specs.declared.operators.UnaryOp.{UnaryOp}
use Rattle.cat_scope.specs.declared.operators.UnaryOp.TheVariants as unary
use Rattle.cat_scope.specs.declared.operators.BinaryOp.{BinaryOp}
use Rattle.cat_scope.specs.declared.operators.BinaryOp.TheVariants as binary
use Rattle.cat_scope.specs.Replies.{Reply, on_one}
use Rattle.cat_scope.specs.Runs.{Run, plain, giving}
use Rattle.cat_scope.specs.Operators.{operate}
use Rattle.cat_scope.specs.Projections as read
use Rattle.cat_scope.specs.Projections.{case_of}
use Rattle.cat_scope.specs.Names.{Names, AllHave, IsOneOf}
use Rattle.cat_scope.specs.Fitting.{cases_in, has_case}
use Rattle.cat_scope.specs.Signatures.{Signature, signatures_of, taken_by, comparison, ordered_types, compared_types}
use Rattle.cat_scope.specs.HasType.{HasType}
use Rattle.cat_scope.specs.Same.{Standing}
use Rattle.cat_scope.specs.Eval.{Env, eval}
use Rattle.cat_sound.specs.Endings.{Allowed, Ended, IsOf, AreOf, IsEnvOf}
use Rattle.cat_sound.specs.Parts.{PartsTyped}
use Rattle.cat_sound.proofs.Exported.{by_parts, parts_of, env_parts, expressions_go_on}
use Rattle.cat_guard.specs.Formulas.{Formula, truth}
use Rattle.cat_guard.specs.Comparisons.{Comparison, comparison_of, turned, constant_of}
use Rattle.cat_guard.specs.Questions.{Question, ask_truth, against, compared, operated, literal_guard, unary_guard}
use Rattle.cat_guard.specs.Questions.{binary_guard, guard_in, guard_of}
use Rattle.cat_guard.specs.PointValues.{point_in, point_of, point_or, point_at}
use Rattle.cat_guard.proofs.Exported.{guarded, guard_at, then_end}
use Rattle.cat_audit_sound.specs.Evaluations.{says, answered}
use Rattle.cat_audit_sound.proofs.ConditionsTell.{Tells, tells_as, tells_Boolean, tells_and, tells_or, tells_if}
use Rattle.cat_audit_sound.proofs.ConditionsTell.{tells_not}
use Rattle.cat_audit_sound.proofs.ConditionsTell.{tells_xor}
use Rattle.cat_audit_sound.proofs.ConditionsTell.{on_one_same}
use Rattle.cat_audit_sound.proofs.Constants.{Form, eval_at, typed_at, threshold_value, threshold_type}
use Rattle.cat_audit_sound.proofs.Constants.{constant_is}
use Rattle.cat_audit_sound.proofs.ConstantCuts.{tells_right, tells_left}

-- ---- a condition that is not taken apart

boolean_point : (b : Bool) → answer cut.IsTrue (point_at dim.Truth (Ok (flat.Boolean b))) ≡ b
boolean_point b = rw (value.outs-Boolean b) refl

tells_truth : (allowed : Allowed) (ds : Decls) (s : Reply) → Ended allowed (IsOf ds flat_ty.Boolean) s
    → Tells s (answer cut.IsTrue (point_at dim.Truth s))
tells_truth allowed ds (Err stop) ends b e = absurd (cc)
tells_truth allowed ds (Ok v) ends b e =
    let is = boolean_value ds v ends in
    subst (λ u. Tells (Ok u) (answer cut.IsTrue (point_at dim.Truth (Ok u)))) (sym is.1)
    (tells_as (Ok (flat.Boolean is.0)) (Ok (flat.Boolean is.0)) _ is.0 refl (boolean_point is.0) (tells_Boolean is.0))
    b e

-- ---- the operands of a comparison have one type

alike : (r : Signature) (ts : List Ty) → IsOneOf r (map comparison ts) → r.left ≡ r.right
alike r [] is = elim is [ ]
alike r (t ∷ ts) (inl e) = ap (λ (s : Signature). s.left) e ∙ sym (ap (λ (s : Signature). s.right) e)
alike r (t ∷ ts) (inr more) = alike r ts more

pub compared_alike : (o : BinaryOp) (c : Comparison) → comparison_of o ≡ Some c → (r : Signature)
    → IsOneOf r (signatures_of o) → r.left ≡ r.right
compared_alike binary.Less c e r is = alike r ordered_types is
compared_alike binary.AtMost c e r is = alike r ordered_types is
compared_alike binary.Greater c e r is = alike r ordered_types is
compared_alike binary.AtLeast c e r is = alike r ordered_types is
compared_alike binary.Equal c e r is = alike r compared_types is
compared_alike binary.Unequal c e r is = alike r compared_types is
compared_alike _ c e r is = absurd (cc)

pub xor_signature : (r : Signature) → IsOneOf r (signatures_of binary.Xor)
    → (r.left ≡ flat_ty.Boolean) × (r.right ≡ flat_ty.Boolean)
xor_signature r (inl e) = (ap (λ (s : Signature). s.left) e, ap (λ (s : Signature). s.right) e)
xor_signature r (inr none) = elim none [ ]

-- ---- a case

pub record IsCaseOf (ds : Decls) (n : ℕ) (v : Value) : Type 0 where
  pub case : ℕ
  pub content : Option Value
  pub case_is : case_of v ≡ Ok (case, content)
  pub point_is : point_of v ≡ Some (point.Case case)
  pub is : is_point (dim.Cases (cases_in (slice_get ds.enumerations n))) (point.Case case) ≡ true

case_below : (ds : Decls) (n k : ℕ) (content : Option Value) → IsTrue (is_case ds n k content)
    → nat_lt k (cases_in (slice_get ds.enumerations n)) ≡ true
case_below ds n k content h = by (slice_get ds.enumerations n) h
  where
    in_list : (cases : List Case) (k : ℕ)
        → IsTrue (some_passes (content_has_type ds content) (content_in (slice_get cases k)))
        → nat_lt k (length cases) ≡ true
    in_list [] k h = absurd (true≢false (sym h))
    in_list (c ∷ cases) zero h = grind (arith, nat_tests)
    in_list (c ∷ cases) (suc k) h = let below = in_list cases k h in grind (arith, nat_tests)

    by : (o : Option Enumeration) → IsTrue (some_passes (content_has_type ds content) (case_in k o))
        → nat_lt k (cases_in o) ≡ true
    by None h = absurd (true≢false (sym h))
    by (Some e) h = in_list e.cases k h

case_there : (ds : Decls) (n : ℕ) (v : Value) → IsOf ds (flat_ty.Enumeration n) v → IsCaseOf ds n v
case_there ds n v h =
    let is = case_value ds v n h in
    subst (IsCaseOf ds n) (sym is.2)
    (record {
      case = is.0;
      content = is.1;
      case_is = ap read.case_in (value.outs-Case is.0 is.1);
      point_is = ap point_in (value.outs-Case is.0 is.1);
      is = case_below ds n is.0 is.1 is.3;
    })

eqb_is : (n k : ℕ) → answer (cut.IsCase k) (point.Case n) ≡ nat_eq n k
eqb_is n k = refl

module _ (allowed : Allowed) (ns : Names) (env : Env) (ps : List Ty) (arguments : List Value)
    (are : AreOf ns.decls ps arguments) (g : Standing) where
  abbrev value_of : Expr → Run Value
  value_of e = eval env e arguments

  abbrev holds : Question → Bool
  holds = answered (λ e. (value_of e).end)

  abbrev Has : Expr → Type 0
  Has e = IsEnvOf allowed ns env e

  abbrev Goal : Expr → Formula Question → Type 0
  Goal e f = Tells (value_of e).end (truth holds f)

  ends : (e : Expr) (t : Ty) → HasType ns ps e t → Has e → Ended allowed (IsOf ns.decls t) (value_of e).end
  ends e t typed has = (expressions_go_on allowed ns env ps arguments e t typed has are).1

  other : (e : Expr) → HasType ns ps e flat_ty.Boolean → Has e → Goal e (ask_truth g e)
  other e typed has = tells_truth allowed ns.decls (value_of e).end (ends e flat_ty.Boolean typed has)

  -- a comparison
  binary_end : (e : Expr) (p q : Pos) (o : BinaryOp) (a b : Expr) → out-Expr e ≡ Expr-F.Binary p o q a b
      → (value_of e).end ≡ on_one (value_of a).end (λ v. on_one (value_of b).end (operate env.rounding o q v))
  binary_end e p q o a b is =
      ap (λ (r : Run Value). r.end) (eval_at env e (Expr-F.Binary p o q a b) is arguments)
      ∙ then_end (value_of a) (λ v. giving (value_of b) (operate env.rounding o q v))
      ∙ on_one_same (value_of a).end _ _ (λ v. then_end (value_of b) (λ w. plain (operate env.rounding o q v w)))

  compared_tells : (e : Expr) (p q : Pos) (o : BinaryOp) (c : Comparison) (a b : Expr)
      → out-Expr e ≡ Expr-F.Binary p o q a b → comparison_of o ≡ Some c → (r : Signature)
      → IsOneOf r (signatures_of o) → HasType ns ps a r.left → HasType ns ps b r.right
      → HasType ns ps e flat_ty.Boolean → Has e → Has a → Has b
      → (left : Option Threshold) → constant_of a ≡ left → (right : Option Threshold) → constant_of b ≡ right
      → Goal e (compared g e c a left b right)
  compared_tells e p q o c a b is reads r one typed_a typed_b typed has has_a has_b left at_left (Some s) at_right =
      let k = constant_is ns ps env arguments b r.right s at_right typed_b in
      let ty : r.left ≡ threshold_type s = compared_alike o c reads r one ∙ k.ty in
      tells_as (value_of e).end (on_one (value_of a).end (λ v. operate env.rounding o q v (threshold_value s)))
      (truth holds (against g a c s)) (truth holds (against g a c s))
      (binary_end e p q o a b is
      ∙ on_one_same (value_of a).end _ _ (λ v. ap (λ x. on_one x (operate env.rounding o q v)) k.end)) refl
      (tells_right allowed ns.decls holds _ _ s (value_of a).end
      (subst (λ t. Ended allowed (IsOf ns.decls t) (value_of a).end) ty (ends a r.left typed_a has_a)) refl refl
      env.rounding o c reads q)
  compared_tells e p q o c a b is reads r one typed_a typed_b typed has has_a has_b (Some s) at_left None at_right =
      let k = constant_is ns ps env arguments a r.left s at_left typed_a in
      let ty : r.right ≡ threshold_type s = sym (compared_alike o c reads r one) ∙ k.ty in
      tells_as (value_of e).end (on_one (value_of b).end (λ v. operate env.rounding o q (threshold_value s) v))
      (truth holds (against g b (turned c) s)) (truth holds (against g b (turned c) s))
      (binary_end e p q o a b is
      ∙ ap (λ x. on_one x (λ v. on_one (value_of b).end (operate env.rounding o q v))) k.end) refl
      (tells_left allowed ns.decls holds _ _ s (value_of b).end
      (subst (λ t. Ended allowed (IsOf ns.decls t) (value_of b).end) ty (ends b r.right typed_b has_b)) refl refl
      env.rounding o c reads q)
  compared_tells e p q o c a b is reads r one typed_a typed_b typed has has_a has_b None at_left None at_right =
      other e typed has

  operated_tells : (e : Expr) (p q : Pos) (o : BinaryOp) (a b : Expr) → out-Expr e ≡ Expr-F.Binary p o q a b
      → (r : Signature) → IsOneOf r (signatures_of o) → HasType ns ps a r.left → HasType ns ps b r.right
      → HasType ns ps e flat_ty.Boolean → Has e → Has a → Has b
      → (c : Option Comparison) → comparison_of o ≡ c → Goal e (operated g e c a b)
  operated_tells e p q o a b is r one typed_a typed_b typed has has_a has_b None reads = other e typed has
  operated_tells e p q o a b is r one typed_a typed_b typed has has_a has_b (Some c) reads =
      compared_tells e p q o c a b is reads r one typed_a typed_b typed has has_a has_b (constant_of a) refl
      (constant_of b) refl

  -- what holds of an expression
  abbrev IsTold : Expr → Type 0
  IsTold e = HasType ns ps e flat_ty.Boolean → Has e → Goal e (guard_of ns.decls g e)

  binary_tells : (e : Expr) (p q : Pos) (o : BinaryOp) (a b : Expr) → out-Expr e ≡ Expr-F.Binary p o q a b
      → (r : Signature) → IsOneOf r (signatures_of o) → HasType ns ps a r.left → HasType ns ps b r.right
      → HasType ns ps e flat_ty.Boolean → Has e → Has a → Has b → IsTold a → IsTold b
      → Goal e (binary_guard g e o a (guard_of ns.decls g a) b (guard_of ns.decls g b))
  binary_tells e p q binary.Xor a b is r one typed_a typed_b typed has has_a has_b told_a told_b =
      let sides = xor_signature r one in
      tells_as (value_of e).end _ _ _
      (ap (λ (x : Run Value). x.end) (eval_at env e (Expr-F.Binary p binary.Xor q a b) is arguments)) refl
      (tells_xor env.rounding q (value_of a) (value_of b) (truth holds (guard_of ns.decls g a))
      (truth holds (guard_of ns.decls g b)) (told_a (subst (HasType ns ps a) sides.0 typed_a) has_a)
      (told_b (subst (HasType ns ps b) sides.1 typed_b) has_b))
  binary_tells e p q o a b is r one typed_a typed_b typed has has_a has_b told_a told_b =
      operated_tells e p q o a b is r one typed_a typed_b typed has has_a has_b (comparison_of o) refl

  unary_tells : (e : Expr) (p : Pos) (o : UnaryOp) (a : Expr) → out-Expr e ≡ Expr-F.Unary p o a
      → HasType ns ps e flat_ty.Boolean → Has e → Has a → (o ≡ unary.Not → HasType ns ps a flat_ty.Boolean) → IsTold a
      → Goal e (unary_guard g e o (guard_of ns.decls g a))
  unary_tells e p unary.Not a is typed has has_a typed_a told_a =
      tells_as (value_of e).end _ _ _
      (ap (λ (x : Run Value). x.end) (eval_at env e (Expr-F.Unary p unary.Not a) is arguments)) refl
      (tells_not p (value_of a) (truth holds (guard_of ns.decls g a)) (told_a (typed_a refl) has_a))
  unary_tells e p o a is typed has has_a typed_a told_a = other e typed has

  literal_tells : (e : Expr) (p : Pos) (l : Literal) → out-Expr e ≡ Expr-F.Literal p l
      → HasType ns ps e flat_ty.Boolean → Has e → Goal e (literal_guard g e l)
  literal_tells e p (literal.Boolean b) is typed has =
      tells_as (value_of e).end _ b b
      (ap (λ (x : Run Value). x.end) (eval_at env e (Expr-F.Literal p (literal.Boolean b)) is arguments)) refl
      (tells_Boolean b)
  literal_tells e p l is typed has = other e typed has

  -- `e with pattern C`
  case_tells : (e : Expr) (p : Pos) (a : Expr) (n k : ℕ) → out-Expr e ≡ Expr-F.IsCase p a n k
      → HasType ns ps a (flat_ty.Enumeration n) → Has a → IsTrue (has_case ns.decls n k)
      → Goal e (guard_in ns.decls g (guarded ns.decls g (Expr-F.IsCase p a n k)) e (Expr-F.IsCase p a n k))
  case_tells e p a n k is typed has there =
      tells_as (value_of e).end (on_one (value_of a).end
      (λ v. on_one (case_of v) (λ c. Ok (flat.Boolean (nat_eq c.0 k)))))
      _ _
      (ap (λ (x : Run Value). x.end) (eval_at env e (Expr-F.IsCase p a n k) is arguments)
      ∙ then_end (value_of a) (λ v. plain (on_one (case_of v) (λ c. Ok (flat.Boolean (nat_eq c.0 k)))))) refl
      (by (value_of a).end (ends a (flat_ty.Enumeration n) typed has))
    where
      cases : ℕ
      cases = cases_in (slice_get ns.decls.enumerations n)

      by : (r : Reply) → Ended allowed (IsOf ns.decls (flat_ty.Enumeration n)) r
          → Tells (on_one r (λ v. on_one (case_of v) (λ c. Ok (flat.Boolean (nat_eq c.0 k)))))
          (answer (cut.IsCase k) (point_at (dim.Cases cases) r))
      by (Err stop) ended b e = absurd (cc)
      by (Ok v) ended b e =
          let c = case_there ns.decls n v ended in
          tells_as _ (Ok (flat.Boolean (nat_eq c.case k))) _ (nat_eq c.case k)
          (ap (λ r. on_one r (λ (c : ℕ × Option Value). Ok (flat.Boolean (nat_eq c.0 k)))) c.case_is)
          (ap (answer (cut.IsCase k)) (ap (point_or (dim.Cases cases)) c.point_is
          ∙ ap (λ b. if b then point.Case c.case else default_point (dim.Cases cases)) c.is)
          ∙ eqb_is c.case k)
          (tells_Boolean (nat_eq c.case k)) b e

  pub guard_told : (e : Expr) → IsTold e
  guard_told = by_parts IsTold (λ e y is held typed has. by e y is held typed has
      (typed_at ns ps e y is flat_ty.Boolean typed)
      (env_parts is has))
    where
      by : (e : Expr) (y : Form) → out-Expr e ≡ y → AllHave IsTold (parts_of y) → HasType ns ps e flat_ty.Boolean
          → Has e
          → PartsTyped ns ps y flat_ty.Boolean → AllHave Has (parts_of y) → Goal e (guard_of ns.decls g e)
      by e (Expr-F.Literal p l) is held typed has parts envs =
          subst (Goal e) (sym (guard_at ns.decls g e (Expr-F.Literal p l) is)) (literal_tells e p l is typed has)
      by e (Expr-F.Unary p o a) is held typed has parts envs =
          subst (Goal e) (sym (guard_at ns.decls g e (Expr-F.Unary p o a) is))
          (unary_tells e p o a is typed has envs.0
          (λ same. subst (λ (x : UnaryOp). HasType ns ps a (taken_by x)) same parts.0) held.0)
      by e (Expr-F.Binary p o q a b) is held typed has parts envs =
          subst (Goal e) (sym (guard_at ns.decls g e (Expr-F.Binary p o q a b) is))
          (binary_tells e p q o a b is parts.0 parts.1 parts.2 parts.3 typed has envs.0 envs.1.0 held.0 held.1.0)
      by e (Expr-F.And p a b) is held typed has parts envs =
          subst (Goal e) (sym (guard_at ns.decls g e (Expr-F.And p a b) is))
          (tells_as (value_of e).end _ _ _
          (ap (λ (x : Run Value). x.end) (eval_at env e (Expr-F.And p a b) is arguments)) refl
          (tells_and (value_of a) (value_of b) (truth holds (guard_of ns.decls g a))
          (truth holds (guard_of ns.decls g b))
          (held.0 parts.0 envs.0) (held.1.0 parts.1 envs.1.0)))
      by e (Expr-F.Or p a b) is held typed has parts envs =
          subst (Goal e) (sym (guard_at ns.decls g e (Expr-F.Or p a b) is))
          (tells_as (value_of e).end _ _ _
          (ap (λ (x : Run Value). x.end) (eval_at env e (Expr-F.Or p a b) is arguments)) refl
          (tells_or (value_of a) (value_of b) (truth holds (guard_of ns.decls g a))
          (truth holds (guard_of ns.decls g b))
          (held.0 parts.0 envs.0) (held.1.0 parts.1 envs.1.0)))
      by e (Expr-F.If p c a b) is held typed has parts envs =
          subst (Goal e) (sym (guard_at ns.decls g e (Expr-F.If p c a b) is))
          (tells_as (value_of e).end _ _ _
          (ap (λ (x : Run Value). x.end) (eval_at env e (Expr-F.If p c a b) is arguments)) refl
          (tells_if (value_of c) (value_of a) (value_of b) (truth holds (guard_of ns.decls g c))
          (truth holds (guard_of ns.decls g a)) (truth holds (guard_of ns.decls g b))
          (held.0 parts.0 envs.0) (held.1.0 parts.1 envs.1.0) (held.1.1.0 parts.2 envs.1.1.0)))
      by e (Expr-F.IsCase p a n k) is held typed has parts envs =
          subst (Goal e) (sym (guard_at ns.decls g e (Expr-F.IsCase p a n k) is))
          (case_tells e p a n k is parts.0 envs.0 parts.1)
      by e y is held typed has parts envs =
          subst (Goal e) (sym (guard_at ns.decls g e y is)) (other e typed has)

pub guard_tells : (allowed : Allowed) (ns : Names) (env : Env) (ps : List Ty) (arguments : List Value) (g : Standing)
    (e : Expr) (b : Bool) → AreOf ns.decls ps arguments → HasType ns ps e flat_ty.Boolean → IsEnvOf allowed ns env e
    → says (eval env e arguments).end ≡ Some b
    → truth (answered (λ x. (eval env x arguments).end)) (guard_of ns.decls g e) ≡ b
guard_tells allowed ns env ps arguments g e b are typed has tells =
    guard_told allowed ns env ps arguments are g e typed has b tells
