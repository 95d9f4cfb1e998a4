-- Comparisons end in a truth value, by any fact that tells what the values of each flat type are.
use Rattle.std.proofs.Common.{◌≡◌, inl, inr, ℤ, Bool, List, [], ◌∷◌, map, Ok, refl, sym, ap, subst}
use Rattle.std.specs.declared.cmp.Ordering.{Ordering}
use Rattle.cat_pos.specs.declared.pos.Pos.{Pos}
use Rattle.cat_num.specs.Frac.{Fraction}
use Rattle.cat_date.specs.Span.{SpanOf, compared_spans}
use Rattle.cat_value.specs.declared.ty.Ty.{Ty}
use Rattle.cat_value.specs.declared.ty.Ty.TheVariants as ty
use Rattle.cat_value.specs.declared.value.Value.{Value}
use Rattle.cat_value.specs.declared.value.Value.TheOpen.{Value-F}
use Rattle.cat_value.specs.declared.value.Value.TheVariants as flat
use Rattle.cat_value.specs.declared.value.Value.TheViews as value
use Rattle.cat_scope.specs.Replies.{on_one}
use Rattle.cat_scope.specs.Projections as read
use Rattle.cat_scope.specs.Comparing.{compared, compared_in, equal, equal_in}
use Rattle.cat_scope.specs.Names.{IsOneOf}
use Rattle.cat_scope.specs.Signatures.{Signature, comparison, ordered_types, compared_types}
use Rattle.cat_sound.specs.Endings.{ResultsIn}
use Rattle.cat_sound.proofs.Results.{Any, result_as, result_then}
use Rattle.cat_sound.proofs.FlatTypes.{result_dated, compared-dated}

-- ---- what is read of a value of which the level is known

pub truth_read : (v : Value) → (a : Bool) × (value.out-Value v ≡ Value-F.Boolean a)
    → ResultsIn (Any {A = Bool}) (read.truth v)
truth_read v is = result_as (Any {A = Bool}) (read.truth v) (Ok is.0) (ap read.truth_in is.1) tt

pub integer_read : (v : Value) → (a : ℤ) × (value.out-Value v ≡ Value-F.Integer a)
    → ResultsIn (Any {A = ℤ}) (read.integer v)
integer_read v is = result_as (Any {A = ℤ}) (read.integer v) (Ok is.0) (ap read.integer_in is.1) tt

pub decimal_read : (v : Value) → (a : Fraction) × (value.out-Value v ≡ Value-F.Decimal a)
    → ResultsIn (Any {A = Fraction}) (read.decimal v)
decimal_read v is = result_as (Any {A = Fraction}) (read.decimal v) (Ok is.0) (ap read.decimal_in is.1) tt

pub money_read : (v : Value) → (a : ℤ) × (value.out-Value v ≡ Value-F.Money a)
    → ResultsIn (Any {A = ℤ}) (read.money v)
money_read v is = result_as (Any {A = ℤ}) (read.money v) (Ok is.0) (ap read.money_in is.1) tt

pub date_read : (v : Value) → (a : ℤ) × (value.out-Value v ≡ Value-F.Date a) → ResultsIn (Any {A = ℤ}) (read.date v)
date_read v is = result_as (Any {A = ℤ}) (read.date v) (Ok is.0) (ap read.date_in is.1) tt

pub duration_read : (v : Value) → (a : SpanOf) × (value.out-Value v ≡ Value-F.Duration a)
    → ResultsIn (Any {A = SpanOf}) (read.duration v)
duration_read v is = result_as (Any {A = SpanOf}) (read.duration v) (Ok is.0) (ap read.duration_in is.1) tt

-- ---- comparisons

-- a fact on values tells the level of those of flat types, and holds of truth values
pub record Levels (Has : Ty → Value → Type 0) : Type 0 where
  pub truth : (v : Value) → Has ty.Boolean v → (a : Bool) × (value.out-Value v ≡ Value-F.Boolean a)
  pub integer : (v : Value) → Has ty.Integer v → (a : ℤ) × (value.out-Value v ≡ Value-F.Integer a)
  pub decimal : (v : Value) → Has ty.Decimal v → (a : Fraction) × (value.out-Value v ≡ Value-F.Decimal a)
  pub money : (v : Value) → Has ty.Money v → (a : ℤ) × (value.out-Value v ≡ Value-F.Money a)
  pub date : (v : Value) → Has ty.Date v → (a : ℤ) × (value.out-Value v ≡ Value-F.Date a)
  pub duration : (v : Value) → Has ty.Duration v → (a : SpanOf) × (value.out-Value v ≡ Value-F.Duration a)
  pub has_truth : (a : Bool) → Has ty.Boolean (flat.Boolean a)

-- among the signatures of comparisons of some types is that of one of them
signature_in : (signature : Signature) (ts : List Ty) → IsOneOf signature (map comparison ts) → (t : Ty) × IsOneOf t ts
    × (signature ≡ comparison t)
signature_in signature [] h = elim h [ ]
signature_in signature (t ∷ ts) (inl e) = (t, inl refl, e)
signature_in signature (t ∷ ts) (inr h) = let rest = signature_in signature ts h in (rest.0, inr rest.1, rest.2)

module _ (Has : Ty → Value → Type 0) (levels : Levels Has) (p : Pos) (v w : Value) where
  compared-at : (y : Value-F Value) → value.out-Value v ≡ y → ResultsIn (Any {A = Ordering}) (compared_in p y w)
      → ResultsIn (Any {A = Ordering}) (compared p v w)
  compared-at y is h =
      result_as (Any {A = Ordering}) (compared p v w) (compared_in p y w) (ap (λ x. compared_in p x w) is) h

  equal-at : (y : Value-F Value) → value.out-Value v ≡ y → ResultsIn (Any {A = Bool}) (equal_in p y v w)
      → ResultsIn (Any {A = Bool}) (equal p v w)
  equal-at y is h = result_as (Any {A = Bool}) (equal p v w) (equal_in p y v w) (ap (λ x. equal_in p x v w) is) h

  compared-Integer : Has ty.Integer v → Has ty.Integer w → ResultsIn (Any {A = Ordering}) (compared p v w)
  compared-Integer hv hw =
      let is = levels.integer v hv in
      compared-at (Value-F.Integer is.0) is.1
      (result_then (Any {A = ℤ}) (Any {A = Ordering}) (read.integer w) _ (integer_read w (levels.integer w hw))
      (λ b h. tt))

  compared-Decimal : Has ty.Decimal v → Has ty.Decimal w → ResultsIn (Any {A = Ordering}) (compared p v w)
  compared-Decimal hv hw =
      let is = levels.decimal v hv in
      compared-at (Value-F.Decimal is.0) is.1
      (result_then (Any {A = Fraction}) (Any {A = Ordering}) (read.decimal w) _ (decimal_read w (levels.decimal w hw))
      (λ b h. tt))

  compared-Money : Has ty.Money v → Has ty.Money w → ResultsIn (Any {A = Ordering}) (compared p v w)
  compared-Money hv hw =
      let is = levels.money v hv in
      compared-at (Value-F.Money is.0) is.1
      (result_then (Any {A = ℤ}) (Any {A = Ordering}) (read.money w) _ (money_read w (levels.money w hw)) (λ b h. tt))

  compared-Date : Has ty.Date v → Has ty.Date w → ResultsIn (Any {A = Ordering}) (compared p v w)
  compared-Date hv hw =
      let is = levels.date v hv in
      compared-at (Value-F.Date is.0) is.1
      (result_then (Any {A = ℤ}) (Any {A = Ordering}) (read.date w) _ (date_read w (levels.date w hw)) (λ b h. tt))

  compared-Duration : Has ty.Duration v → Has ty.Duration w → ResultsIn (Any {A = Ordering}) (compared p v w)
  compared-Duration hv hw =
      let is = levels.duration v hv in
      compared-at (Value-F.Duration is.0) is.1
      (result_then (Any {A = SpanOf}) (Any {A = Ordering}) (read.duration w) _
      (duration_read w (levels.duration w hw))
      (λ b h. result_dated (Any {A = Ordering}) p (λ o. o) (compared_spans is.0 b) (compared-dated is.0 b)
      (λ o told. tt)))

  at : (t u : Ty) (x : Value) → t ≡ u → Has t x → Has u x
  at t u x e h = subst (λ s. Has s x) e h

  compared-ends : (t : Ty) → IsOneOf t ordered_types → Has t v → Has t w
      → ResultsIn (Any {A = Ordering}) (compared p v w)
  compared-ends t (inl e) hv hw = compared-Integer (at t ty.Integer v e hv) (at t ty.Integer w e hw)
  compared-ends t (inr (inl e)) hv hw = compared-Decimal (at t ty.Decimal v e hv) (at t ty.Decimal w e hw)
  compared-ends t (inr (inr (inl e))) hv hw = compared-Money (at t ty.Money v e hv) (at t ty.Money w e hw)
  compared-ends t (inr (inr (inr (inl e)))) hv hw = compared-Date (at t ty.Date v e hv) (at t ty.Date w e hw)
  compared-ends t (inr (inr (inr (inr (inl e))))) hv hw =
      compared-Duration (at t ty.Duration v e hv) (at t ty.Duration w e hw)
  compared-ends t (inr (inr (inr (inr (inr none))))) hv hw = elim none [ ]

  equal-Boolean : Has ty.Boolean v → Has ty.Boolean w → ResultsIn (Any {A = Bool}) (equal p v w)
  equal-Boolean hv hw =
      let is = levels.truth v hv in
      equal-at (Value-F.Boolean is.0) is.1
      (result_then (Any {A = Bool}) (Any {A = Bool}) (read.truth w) _ (truth_read w (levels.truth w hw)) (λ b h. tt))

  -- what has an order is equal where neither is less
  equal-ordered : (t : Ty) → IsOneOf t ordered_types → Has t v → Has t w → ResultsIn (Any {A = Bool}) (equal p v w)
  equal-ordered t (inl e) hv hw =
      let is = levels.integer v (at t ty.Integer v e hv) in
      equal-at (Value-F.Integer is.0) is.1
      (result_then (Any {A = Ordering}) (Any {A = Bool}) (compared p v w) _
      (compared-Integer (at t ty.Integer v e hv) (at t ty.Integer w e hw)) (λ o h. tt))
  equal-ordered t (inr (inl e)) hv hw =
      let is = levels.decimal v (at t ty.Decimal v e hv) in
      equal-at (Value-F.Decimal is.0) is.1
      (result_then (Any {A = Ordering}) (Any {A = Bool}) (compared p v w) _
      (compared-Decimal (at t ty.Decimal v e hv) (at t ty.Decimal w e hw)) (λ o h. tt))
  equal-ordered t (inr (inr (inl e))) hv hw =
      let is = levels.money v (at t ty.Money v e hv) in
      equal-at (Value-F.Money is.0) is.1
      (result_then (Any {A = Ordering}) (Any {A = Bool}) (compared p v w) _
      (compared-Money (at t ty.Money v e hv) (at t ty.Money w e hw)) (λ o h. tt))
  equal-ordered t (inr (inr (inr (inl e)))) hv hw =
      let is = levels.date v (at t ty.Date v e hv) in
      equal-at (Value-F.Date is.0) is.1
      (result_then (Any {A = Ordering}) (Any {A = Bool}) (compared p v w) _
      (compared-Date (at t ty.Date v e hv) (at t ty.Date w e hw)) (λ o h. tt))
  equal-ordered t (inr (inr (inr (inr (inl e))))) hv hw =
      let is = levels.duration v (at t ty.Duration v e hv) in
      equal-at (Value-F.Duration is.0) is.1
      (result_then (Any {A = Ordering}) (Any {A = Bool}) (compared p v w) _
      (compared-Duration (at t ty.Duration v e hv) (at t ty.Duration w e hw)) (λ o h. tt))
  equal-ordered t (inr (inr (inr (inr (inr none))))) hv hw = elim none [ ]

  pub equal-ends : (t : Ty) → IsOneOf t compared_types → Has t v → Has t w → ResultsIn (Any {A = Bool}) (equal p v w)
  equal-ends t (inl e) hv hw = equal-Boolean (at t ty.Boolean v e hv) (at t ty.Boolean w e hw)
  equal-ends t (inr more) hv hw = equal-ordered t more hv hw

  module _ (signature : Signature) where
    pub by_order : (next : Ordering → Bool) → IsOneOf signature (map comparison ordered_types) → Has signature.left v
        → Has signature.right w
        → ResultsIn (Has signature.result) (on_one (compared p v w) (λ x. Ok (flat.Boolean (next x))))
    by_order next is hv hw =
        let t = signature_in signature ordered_types is in
        subst (λ u. ResultsIn (Has u) (on_one (compared p v w) (λ x. Ok (flat.Boolean (next x)))))
        (sym (ap (λ x. x.result) t.2))
        (result_then (Any {A = Ordering}) (Has ty.Boolean) (compared p v w) _
        (compared-ends t.0 t.1 (subst (λ u. Has u v) (ap (λ x. x.left) t.2) hv)
        (subst (λ u. Has u w) (ap (λ x. x.right) t.2) hw))
        (λ x h. levels.has_truth (next x)))

    pub by_equality : (next : Bool → Bool) → IsOneOf signature (map comparison compared_types)
        → Has signature.left v → Has signature.right w
        → ResultsIn (Has signature.result) (on_one (equal p v w) (λ x. Ok (flat.Boolean (next x))))
    by_equality next is hv hw =
        let t = signature_in signature compared_types is in
        subst (λ u. ResultsIn (Has u) (on_one (equal p v w) (λ x. Ok (flat.Boolean (next x)))))
        (sym (ap (λ x. x.result) t.2))
        (result_then (Any {A = Bool}) (Has ty.Boolean) (equal p v w) _
        (equal-ends t.0 t.1 (subst (λ u. Has u v) (ap (λ x. x.left) t.2) hv)
        (subst (λ u. Has u w) (ap (λ x. x.right) t.2) hw))
        (λ x h. levels.has_truth (next x)))
