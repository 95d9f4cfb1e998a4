-- Types and values by cases and by induction, one case a variant.
use Rattle.std.proofs.Common.{ℕ, ℤ, Bool, List, [], ◌∷◌, map, Option, None, Some, subst, sym}
use Rattle.cat_num.specs.Frac.{Fraction}
use Rattle.cat_date.specs.Span.{SpanOf}
use Rattle.cat_value.specs.declared.ty.Ty.{Ty}
use Rattle.cat_value.specs.declared.ty.Ty.TheOpen.{Ty-F}
use Rattle.cat_value.specs.declared.ty.Ty.TheFolds.{ind-Ty, map-Ty}
use Rattle.cat_value.specs.declared.ty.Ty.TheVariants as flat_ty
use Rattle.cat_value.specs.declared.ty.Ty.TheViews as ty
use Rattle.cat_value.specs.declared.value.Value.{Value}
use Rattle.cat_value.specs.declared.value.Value.TheOpen.{Value-F}
use Rattle.cat_value.specs.declared.value.Value.TheFolds.{ind-Value, map-Value}
use Rattle.cat_value.specs.declared.value.Value.TheVariants as flat
use Rattle.cat_value.specs.declared.value.Value.TheViews as value

module _
    (P : Ty → Type 0)
    (boolean : P flat_ty.Boolean)
    (integer : P flat_ty.Integer)
    (decimal : P flat_ty.Decimal)
    (money : P flat_ty.Money)
    (date : P flat_ty.Date)
    (duration : P flat_ty.Duration)
    (list : (t : Ty) → P t → P (ty.List t))
    (structure : (n : ℕ) → P (flat_ty.Structure n))
    (enumeration : (n : ℕ) → P (flat_ty.Enumeration n)) where
  at_type : (y : Ty-F ((t : Ty) × P t)) → P (ty.roll-Ty (map-Ty ((t : Ty) × P t) Ty (λ t. t.0) y))
  at_type Ty-F.Boolean = subst P (sym ty.rolls-Boolean) boolean
  at_type Ty-F.Integer = subst P (sym ty.rolls-Integer) integer
  at_type Ty-F.Decimal = subst P (sym ty.rolls-Decimal) decimal
  at_type Ty-F.Money = subst P (sym ty.rolls-Money) money
  at_type Ty-F.Date = subst P (sym ty.rolls-Date) date
  at_type Ty-F.Duration = subst P (sym ty.rolls-Duration) duration
  at_type (Ty-F.List t) = subst P (sym (ty.rolls-List t.0)) (list t.0 t.1)
  at_type (Ty-F.Structure n) = subst P (sym (ty.rolls-Structure n)) (structure n)
  at_type (Ty-F.Enumeration n) = subst P (sym (ty.rolls-Enumeration n)) (enumeration n)

  pub type_induction : (t : Ty) → P t
  type_induction = ind-Ty P (λ x y is. subst (λ z. P (ty.roll-Ty z)) is (at_type y))

-- what holds of each element
abbrev pub Each : {A : Type 0} → (A → Type 0) → List A → Type 0
Each P [] = Unit {0}
Each P (x ∷ xs) = P x × Each P xs

-- what holds of a content, where there is one
abbrev pub Within : {A : Type 0} → (A → Type 0) → Option A → Type 0
Within P None = Unit {0}
Within P (Some x) = P x

each_held : {A : Type 0} (P : A → Type 0) (ys : List ((x : A) × P x)) → Each P (map (λ y. y.0) ys)
each_held P [] = tt
each_held P (y ∷ ys) = (y.1, each_held P ys)

module _
    (P : Value → Type 0)
    (boolean : (b : Bool) → P (flat.Boolean b))
    (integer : (n : ℤ) → P (flat.Integer n))
    (decimal : (f : Fraction) → P (flat.Decimal f))
    (money : (n : ℤ) → P (flat.Money n))
    (date : (day : ℤ) → P (flat.Date day))
    (duration : (span : SpanOf) → P (flat.Duration span))
    (list : (vs : List Value) → Each P vs → P (value.List vs))
    (structure : (vs : List Value) → Each P vs → P (value.Structure vs))
    (case : (k : ℕ) (content : Option Value) → Within P content → P (value.Case k content)) where
  at_value : (y : Value-F ((v : Value) × P v)) → P (value.roll-Value (map-Value ((v : Value) × P v) Value (λ v. v.0) y))
  at_value (Value-F.Boolean b) = subst P (sym (value.rolls-Boolean b)) (boolean b)
  at_value (Value-F.Integer n) = subst P (sym (value.rolls-Integer n)) (integer n)
  at_value (Value-F.Decimal f) = subst P (sym (value.rolls-Decimal f)) (decimal f)
  at_value (Value-F.Money n) = subst P (sym (value.rolls-Money n)) (money n)
  at_value (Value-F.Date day) = subst P (sym (value.rolls-Date day)) (date day)
  at_value (Value-F.Duration span) = subst P (sym (value.rolls-Duration span)) (duration span)
  at_value (Value-F.List vs) =
      subst P (sym (value.rolls-List (map (λ v. v.0) vs))) (list (map (λ v. v.0) vs) (each_held P vs))
  at_value (Value-F.Structure vs) =
      subst P (sym (value.rolls-Structure (map (λ v. v.0) vs))) (structure (map (λ v. v.0) vs) (each_held P vs))
  at_value (Value-F.Case k None) = subst P (sym (value.rolls-Case k None)) (case k None tt)
  at_value (Value-F.Case k (Some v)) = subst P (sym (value.rolls-Case k (Some v.0))) (case k (Some v.0) v.1)

  pub value_induction : (v : Value) → P v
  value_induction = ind-Value P (λ x y is. subst (λ z. P (value.roll-Value z)) is (at_value y))
