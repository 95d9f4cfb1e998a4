-- The cuts of comparisons with constants say what the comparisons give.
use Rattle.std.proofs.Common.{◌≡◌, Bool, not}
use Rattle.std.proofs.Common.{Some, Ok, Err, refl, ap, ◌∙◌}
use Rattle.std.specs.Prelude.{if◌then◌else◌}
use Rattle.std.specs.declared.cmp.Ordering.{Ordering}
use Rattle.std.specs.declared.cmp.Ordering.TheVariants as order
use Rattle.std.specs.Ordering.{is_lt, is_le, ordering_reverse}
use Rattle.cat_pos.specs.declared.pos.Pos.{Pos}
use Rattle.cat_date.specs.declared.rounding.Rounding.{Rounding}
use Rattle.cat_value.specs.declared.value.Value.{Value}
use Rattle.cat_value.specs.declared.value.Value.TheVariants as flat
use Rattle.cat_value.specs.declared.decls.Decls.{Decls}
use Rattle.cat_region.specs.declared.cut.Threshold.{Threshold}
use Rattle.cat_region.specs.declared.point.Point.TheVariants as point
use Rattle.cat_region.specs.Points.{point_order, default_point}
use Rattle.cat_scope.specs.declared.operators.BinaryOp.{BinaryOp}
use Rattle.cat_scope.specs.Replies.{Reply, on_one}
use Rattle.cat_scope.specs.Comparing.{is_less, is_equal, is_greater}
use Rattle.cat_scope.specs.Operators.{operate}
use Rattle.cat_sound.specs.Endings.{Allowed, Ended, IsOf}
use Rattle.cat_guard.specs.Formulas.{Formula, truth}
use Rattle.cat_guard.specs.Formulas as formula
use Rattle.cat_guard.specs.Comparisons.{Comparison, comparison_of, reads, turned, parted, threshold_dim}
use Rattle.cat_guard.specs.Comparisons as comparison
use Rattle.cat_guard.specs.PointValues.{point_or, point_at}
use Rattle.cat_audit_sound.proofs.ConditionsTell.{Tells, tells_as, tells_Boolean}
use Rattle.cat_audit_sound.proofs.Constants.{IsCompared, compared_with, operate_reads, threshold_type, threshold_value}

-- ---- what cuts say

parted_reads : {A : Type 0} (holds : A → Bool) (c : Comparison) (o : Ordering) (f g : Formula A)
    → truth holds f ≡ is_lt o → truth holds g ≡ is_le o → truth holds (parted c f g) ≡ reads c o
parted_reads holds comparison.Less o f g below at_most = below ∙ less o
  where
    less : (o : Ordering) → is_lt o ≡ is_less o
    less order.Less = refl
    less order.Equal = refl
    less order.Greater = refl
parted_reads holds comparison.AtMost o f g below at_most = at_most ∙ most o
  where
    most : (o : Ordering) → is_le o ≡ not (is_greater o)
    most order.Less = refl
    most order.Equal = refl
    most order.Greater = refl
parted_reads holds comparison.Greater o f g below at_most = ap not at_most ∙ more o
  where
    more : (o : Ordering) → not (is_le o) ≡ is_greater o
    more order.Less = refl
    more order.Equal = refl
    more order.Greater = refl
parted_reads holds comparison.AtLeast o f g below at_most = ap not below ∙ least o
  where
    least : (o : Ordering) → not (is_lt o) ≡ not (is_less o)
    least order.Less = refl
    least order.Equal = refl
    least order.Greater = refl
parted_reads holds comparison.Equal o f g below at_most = rw (below, at_most) (same o)
  where
    same : (o : Ordering) → truth {A = Bool} (λ b. b)
        (parted comparison.Equal (formula.Constant (is_lt o)) (formula.Constant (is_le o))) ≡ is_equal o
    same order.Less = refl
    same order.Equal = refl
    same order.Greater = refl
parted_reads holds comparison.Unequal o f g below at_most = rw (below, at_most) (other o)
  where
    other : (o : Ordering) → truth {A = Bool} (λ b. b)
        (parted comparison.Unequal (formula.Constant (is_lt o)) (formula.Constant (is_le o))) ≡ not (is_equal o)
    other order.Less = refl
    other order.Equal = refl
    other order.Greater = refl

reads_turned : (c : Comparison) (o : Ordering) → reads (turned c) o ≡ reads c (ordering_reverse o)
reads_turned comparison.Less order.Less = refl
reads_turned comparison.Less order.Equal = refl
reads_turned comparison.Less order.Greater = refl
reads_turned comparison.AtMost order.Less = refl
reads_turned comparison.AtMost order.Equal = refl
reads_turned comparison.AtMost order.Greater = refl
reads_turned comparison.Greater order.Less = refl
reads_turned comparison.Greater order.Equal = refl
reads_turned comparison.Greater order.Greater = refl
reads_turned comparison.AtLeast order.Less = refl
reads_turned comparison.AtLeast order.Equal = refl
reads_turned comparison.AtLeast order.Greater = refl
reads_turned comparison.Equal order.Less = refl
reads_turned comparison.Equal order.Equal = refl
reads_turned comparison.Equal order.Greater = refl
reads_turned comparison.Unequal order.Less = refl
reads_turned comparison.Unequal order.Equal = refl
reads_turned comparison.Unequal order.Greater = refl

point_there : (s : Threshold) (v : Value) (k : IsCompared s v) → point_at (threshold_dim s) (Ok v) ≡ k.point
point_there s v k =
    ap (point_or (threshold_dim s)) k.point_is
    ∙ ap (λ b. if b then k.point else default_point (threshold_dim s)) k.is

module _ {A : Type 0} (allowed : Allowed) (ds : Decls) (holds : A → Bool) (f g : Formula A) (s : Threshold) (r : Reply)
    (ends : Ended allowed (IsOf ds (threshold_type s)) r)
    (below : truth holds f ≡ is_lt (point_order (point_at (threshold_dim s) r) s))
    (at_most : truth holds g ≡ is_le (point_order (point_at (threshold_dim s) r) s)) where
  -- a comparison with the constant on the right
  pub tells_right : (rounding : Rounding) (o : BinaryOp) (c : Comparison) → comparison_of o ≡ Some c → (p : Pos)
      → Tells (on_one r (λ v. operate rounding o p v (threshold_value s))) (truth holds (parted c f g))
  tells_right rounding o c is p = by r ends below at_most
    where
      by : (r : Reply) → Ended allowed (IsOf ds (threshold_type s)) r
          → truth holds f ≡ is_lt (point_order (point_at (threshold_dim s) r) s)
          → truth holds g ≡ is_le (point_order (point_at (threshold_dim s) r) s)
          → Tells (on_one r (λ v. operate rounding o p v (threshold_value s))) (truth holds (parted c f g))
      by (Err stop) ends below at_most b e = absurd (cc)
      by (Ok v) ends below at_most b e =
          let k = compared_with ds s v ends in
          let there = ap (λ x. point_order x s) (point_there s v k) in
          tells_as (operate rounding o p v (threshold_value s)) (Ok (flat.Boolean (reads c (point_order k.point s))))
          (truth holds (parted c f g)) (reads c (point_order k.point s))
          (operate_reads rounding o c is p v (threshold_value s) (k.equal_is p)
          ∙ ap (λ x. on_one x (λ y. Ok (flat.Boolean (reads c y)))) (k.order p))
          (parted_reads holds c (point_order k.point s) f g (below ∙ ap is_lt there) (at_most ∙ ap is_le there))
          (tells_Boolean (reads c (point_order k.point s))) b e

  -- and with the constant on the left
  pub tells_left : (rounding : Rounding) (o : BinaryOp) (c : Comparison) → comparison_of o ≡ Some c → (p : Pos)
      → Tells (on_one r (λ v. operate rounding o p (threshold_value s) v)) (truth holds (parted (turned c) f g))
  tells_left rounding o c is p = by r ends below at_most
    where
      by : (r : Reply) → Ended allowed (IsOf ds (threshold_type s)) r
          → truth holds f ≡ is_lt (point_order (point_at (threshold_dim s) r) s)
          → truth holds g ≡ is_le (point_order (point_at (threshold_dim s) r) s)
          → Tells (on_one r (λ v. operate rounding o p (threshold_value s) v)) (truth holds (parted (turned c) f g))
      by (Err stop) ends below at_most b e = absurd (cc)
      by (Ok v) ends below at_most b e =
          let k = compared_with ds s v ends in
          let there = ap (λ x. point_order x s) (point_there s v k) in
          let other = ordering_reverse (point_order k.point s) in
          tells_as (operate rounding o p (threshold_value s) v) (Ok (flat.Boolean (reads c other)))
          (truth holds (parted (turned c) f g)) (reads c other)
          (operate_reads rounding o c is p (threshold_value s) v (k.equal_back p)
          ∙ ap (λ x. on_one x (λ y. Ok (flat.Boolean (reads c y)))) (k.back p))
          (parted_reads holds (turned c) (point_order k.point s) f g (below ∙ ap is_lt there) (at_most ∙ ap is_le there)
          ∙ reads_turned c (point_order k.point s))
          (tells_Boolean (reads c other)) b e
