-- What follows of a value and a type from the value being one of the type.
use Rattle.std.proofs.Common.{◌≡◌, ℕ, ℤ, Bool, IsTrue, List, map, Option, refl, ap, sym, ◌∙◌, subst, true≢false}
use Rattle.std.specs.Option.{option_map}
use Rattle.cat_num.specs.Whole.{fits}
use Rattle.cat_num.specs.Frac.{Fraction}
use Rattle.cat_date.specs.Calendar.{is_day}
use Rattle.cat_date.specs.Span.{SpanOf, is_span}
use Rattle.cat_value.specs.declared.ty.Ty.{Ty}
use Rattle.cat_value.specs.declared.ty.Ty.TheOpen.{Ty-F}
use Rattle.cat_value.specs.declared.ty.Ty.TheVariants as flat_ty
use Rattle.cat_value.specs.declared.ty.Ty.TheViews as ty
use Rattle.cat_value.specs.declared.value.Value.{Value}
use Rattle.cat_value.specs.declared.value.Value.TheOpen.{Value-F}
use Rattle.cat_value.specs.declared.value.Value.TheVariants as flat
use Rattle.cat_value.specs.declared.value.Value.TheViews as value
use Rattle.cat_value.specs.declared.decls.Decls.{Decls}
use Rattle.cat_value.specs.Typing.{has_type, list_typed, structure_typed, case_typed, elements_typed, is_structure}
use Rattle.cat_value.specs.Typing.{is_case}
use Rattle.cat_value.specs.Flat.{is_decimal}
use Rattle.cat_value.proofs.Equations.{has_type_List, has_type_Structure, has_type_Case, has_type-levels, tested}
use Rattle.cat_value.proofs.Equations.{tested_Case, list_is, structure_is, case_is}

-- the type by its level
pub whole : (t : Ty) (y : Ty-F Ty) (u : Ty) → ty.out-Ty t ≡ y → ty.roll-Ty y ≡ u → t ≡ u
whole t y u q r = sym (ty.roll-out-Ty t) ∙ ap ty.roll-Ty q ∙ r

list_seen : (ds : Decls) (vs : List Value) (t : Ty)
    → has_type ds (value.List vs) t ≡ list_typed ds (map (has_type ds) vs) (ty.out-Ty t)
list_seen ds vs t = rw (has_type-levels ds (value.List vs) t, value.outs-List vs) refl

structure_seen : (ds : Decls) (vs : List Value) (t : Ty)
    → has_type ds (value.Structure vs) t ≡ structure_typed ds (map (has_type ds) vs) (ty.out-Ty t)
structure_seen ds vs t = rw (has_type-levels ds (value.Structure vs) t, value.outs-Structure vs) refl

case_seen : (ds : Decls) (k : ℕ) (content : Option Value) (t : Ty)
    → has_type ds (value.Case k content) t ≡ case_typed ds k (option_map (has_type ds) content) (ty.out-Ty t)
case_seen ds k content t =
    rw (has_type-levels ds (value.Case k content) t, value.outs-Case k content) (tested_Case ds k content (ty.out-Ty t))

-- a list is one of a list type, a structure one of a structure, a case one of an enumeration
pub list_of : (ds : Decls) (vs : List Value) (t : Ty) → IsTrue (has_type ds (value.List vs) t)
    → (e : Ty) × (t ≡ ty.List e) × IsTrue (elements_typed ds vs e)
list_of ds vs t h = by (ty.out-Ty t) refl (rw (list_seen ds vs t) at h)
  where
    by : (y : Ty-F Ty) → ty.out-Ty t ≡ y → IsTrue (list_typed ds (map (has_type ds) vs) y)
        → (e : Ty) × (t ≡ ty.List e) × IsTrue (elements_typed ds vs e)
    by (Ty-F.List e) q g =
        let is : t ≡ ty.List e = whole t (Ty-F.List e) (ty.List e) q (ty.rolls-List e) in
        (e, is, rw (is, has_type_List ds vs e) at h)
    by _ q g = absurd (true≢false (sym g))

pub structure_of : (ds : Decls) (vs : List Value) (t : Ty) → IsTrue (has_type ds (value.Structure vs) t)
    → (n : ℕ) × (t ≡ flat_ty.Structure n) × IsTrue (is_structure ds n vs)
structure_of ds vs t h = by (ty.out-Ty t) refl (rw (structure_seen ds vs t) at h)
  where
    by : (y : Ty-F Ty) → ty.out-Ty t ≡ y → IsTrue (structure_typed ds (map (has_type ds) vs) y)
        → (n : ℕ) × (t ≡ flat_ty.Structure n) × IsTrue (is_structure ds n vs)
    by (Ty-F.Structure n) q g =
        let is : t ≡ flat_ty.Structure n = whole t (Ty-F.Structure n) (flat_ty.Structure n) q (ty.rolls-Structure n) in
        (n, is, rw (is, has_type_Structure ds vs n) at h)
    by _ q g = absurd (true≢false (sym g))

pub case_of : (ds : Decls) (k : ℕ) (content : Option Value) (t : Ty) → IsTrue (has_type ds (value.Case k content) t)
    → (n : ℕ) × (t ≡ flat_ty.Enumeration n) × IsTrue (is_case ds n k content)
case_of ds k content t h = by (ty.out-Ty t) refl (rw (case_seen ds k content t) at h)
  where
    by : (y : Ty-F Ty) → ty.out-Ty t ≡ y → IsTrue (case_typed ds k (option_map (has_type ds) content) y)
        → (n : ℕ) × (t ≡ flat_ty.Enumeration n) × IsTrue (is_case ds n k content)
    by (Ty-F.Enumeration n) q g =
        let is : t ≡ flat_ty.Enumeration n = whole t (Ty-F.Enumeration n) (flat_ty.Enumeration n) q
        (ty.rolls-Enumeration n) in (n, is, rw (is, has_type_Case ds k content n) at h)
    by _ q g = absurd (true≢false (sym g))

-- a value of this level
by_level : {v : Value} {y : Value-F Value} → value.out-Value v ≡ y → v ≡ value.roll-Value y
by_level {v} {y} q = sym (value.roll-out-Value v) ∙ ap value.roll-Value q

-- what a value of a type is, by the level of the type
abbrev pub ValueOf : Decls → Ty-F Ty → Value → Type 0
ValueOf ds Ty-F.Boolean v = (b : Bool) × (v ≡ flat.Boolean b)
ValueOf ds Ty-F.Integer v = (n : ℤ) × (v ≡ flat.Integer n) × IsTrue (fits n)
ValueOf ds Ty-F.Decimal v = (f : Fraction) × (v ≡ flat.Decimal f) × IsTrue (is_decimal f)
ValueOf ds Ty-F.Money v = (n : ℤ) × (v ≡ flat.Money n) × IsTrue (fits n)
ValueOf ds Ty-F.Date v = (day : ℤ) × (v ≡ flat.Date day) × IsTrue (is_day day)
ValueOf ds Ty-F.Duration v = (span : SpanOf) × (v ≡ flat.Duration span) × IsTrue (is_span span)
ValueOf ds (Ty-F.List e) v = (vs : List Value) × (v ≡ value.List vs) × IsTrue (elements_typed ds vs e)
ValueOf ds (Ty-F.Structure n) v = (vs : List Value) × (v ≡ value.Structure vs) × IsTrue (is_structure ds n vs)
ValueOf ds (Ty-F.Enumeration n) v =
    (k : ℕ) × (content : Option Value) × (v ≡ value.Case k content) × IsTrue (is_case ds n k content)

value_of : (ds : Decls) (v : Value) (t : Ty) (u : Ty-F Ty) → ty.out-Ty t ≡ u → IsTrue (has_type ds v t) → ValueOf ds u v
value_of ds v t u is h = by (value.out-Value v) u refl (rw (has_type-levels ds v t, is) at h)
  where
    by : (y : Value-F Value) (u : Ty-F Ty) → value.out-Value v ≡ y → IsTrue (tested ds y u) → ValueOf ds u v
    by (Value-F.Boolean b) Ty-F.Boolean q g = (b, by_level q ∙ value.rolls-Boolean b)
    by (Value-F.Integer n) Ty-F.Integer q g = (n, by_level q ∙ value.rolls-Integer n, g)
    by (Value-F.Decimal f) Ty-F.Decimal q g = (f, by_level q ∙ value.rolls-Decimal f, g)
    by (Value-F.Money n) Ty-F.Money q g = (n, by_level q ∙ value.rolls-Money n, g)
    by (Value-F.Date day) Ty-F.Date q g = (day, by_level q ∙ value.rolls-Date day, g)
    by (Value-F.Duration span) Ty-F.Duration q g = (span, by_level q ∙ value.rolls-Duration span, g)
    by (Value-F.List vs) (Ty-F.List e) q g = (vs, by_level q ∙ value.rolls-List vs, subst IsTrue (list_is ds vs e) g)
    by (Value-F.Structure vs) (Ty-F.Structure n) q g =
        (vs, by_level q ∙ value.rolls-Structure vs, subst IsTrue (structure_is ds vs n) g)
    by (Value-F.Case k content) (Ty-F.Enumeration n) q g = (
      k,
      content,
      by_level q ∙ value.rolls-Case k content,
      subst IsTrue (tested_Case ds k content (Ty-F.Enumeration n) ∙ case_is ds k content n) g,
    )
    by _ _ q g = absurd (true≢false (sym g))

pub boolean_value : (ds : Decls) (v : Value) → IsTrue (has_type ds v flat_ty.Boolean) → ValueOf ds Ty-F.Boolean v
boolean_value ds v = value_of ds v flat_ty.Boolean Ty-F.Boolean ty.outs-Boolean

pub integer_value : (ds : Decls) (v : Value) → IsTrue (has_type ds v flat_ty.Integer) → ValueOf ds Ty-F.Integer v
integer_value ds v = value_of ds v flat_ty.Integer Ty-F.Integer ty.outs-Integer

pub decimal_value : (ds : Decls) (v : Value) → IsTrue (has_type ds v flat_ty.Decimal) → ValueOf ds Ty-F.Decimal v
decimal_value ds v = value_of ds v flat_ty.Decimal Ty-F.Decimal ty.outs-Decimal

pub money_value : (ds : Decls) (v : Value) → IsTrue (has_type ds v flat_ty.Money) → ValueOf ds Ty-F.Money v
money_value ds v = value_of ds v flat_ty.Money Ty-F.Money ty.outs-Money

pub date_value : (ds : Decls) (v : Value) → IsTrue (has_type ds v flat_ty.Date) → ValueOf ds Ty-F.Date v
date_value ds v = value_of ds v flat_ty.Date Ty-F.Date ty.outs-Date

pub duration_value : (ds : Decls) (v : Value) → IsTrue (has_type ds v flat_ty.Duration) → ValueOf ds Ty-F.Duration v
duration_value ds v = value_of ds v flat_ty.Duration Ty-F.Duration ty.outs-Duration

pub list_value : (ds : Decls) (v : Value) (e : Ty) → IsTrue (has_type ds v (ty.List e)) → ValueOf ds (Ty-F.List e) v
list_value ds v e = value_of ds v (ty.List e) (Ty-F.List e) (ty.outs-List e)

pub structure_value : (ds : Decls) (v : Value) (n : ℕ) → IsTrue (has_type ds v (flat_ty.Structure n))
    → ValueOf ds (Ty-F.Structure n) v
structure_value ds v n = value_of ds v (flat_ty.Structure n) (Ty-F.Structure n) (ty.outs-Structure n)

pub case_value : (ds : Decls) (v : Value) (n : ℕ) → IsTrue (has_type ds v (flat_ty.Enumeration n))
    → ValueOf ds (Ty-F.Enumeration n) v
case_value ds v n = value_of ds v (flat_ty.Enumeration n) (Ty-F.Enumeration n) (ty.outs-Enumeration n)
