-- A value of a type, as shapes speak of types. No bound of a number, of a day or of a list is asked.
use Rattle.std.proofs.Common.{◌≡◌, ℕ, ℤ, Bool, List, [], ◌∷◌, ◌++◌, Some, None, Ok, ap}
use Rattle.cat_num.specs.Frac.{Fraction}
use Rattle.cat_date.specs.Span.{SpanOf}
use Rattle.cat_value.specs.declared.ty.Ty.{Ty}
use Rattle.cat_value.specs.declared.value.Value.{Value}
use Rattle.cat_value.specs.declared.value.Value.TheOpen.{Value-F}
use Rattle.cat_value.specs.declared.value.Value.TheVariants as flat
use Rattle.cat_value.specs.declared.value.Value.TheViews as value
use Rattle.cat_value.specs.declared.decls.Decls.{Decls}
use Rattle.cat_value.specs.Entries.{content_of}
use Rattle.cat_scope.specs.Projections as read
use Rattle.cat_code.specs.Forms.{Form, Forms, form_of}
use Rattle.cat_code.specs.Forms as forms

mutual
  -- a value of a type
  pub data IsOf (ds : Decls) : Form → Value → Type 0 where
    truth : {v : Value} (b : Bool) → value.out-Value v ≡ Value-F.Boolean b → IsOf ds forms.Truth v
    whole : {v : Value} (n : ℤ) → value.out-Value v ≡ Value-F.Integer n → IsOf ds forms.Whole v
    fraction : {v : Value} (f : Fraction) → value.out-Value v ≡ Value-F.Decimal f → IsOf ds forms.Fraction v
    amount : {v : Value} (n : ℤ) → value.out-Value v ≡ Value-F.Money n → IsOf ds forms.Amount v
    day : {v : Value} (n : ℤ) → value.out-Value v ≡ Value-F.Date n → IsOf ds forms.Day v
    span : {v : Value} (s : SpanOf) → value.out-Value v ≡ Value-F.Duration s → IsOf ds forms.Span v
    many : {t : Form} {v : Value} (vs : List Value) → value.out-Value v ≡ Value-F.List vs → AreAll ds t vs
        → IsOf ds (forms.Many t) v
    fields : {ts : Forms} {v : Value} (vs : List Value) → value.out-Value v ≡ Value-F.Structure vs → AreFields ds ts vs
        → IsOf ds (forms.Fields ts) v
    bare : {n : ℕ} {v : Value} (k : ℕ) → value.out-Value v ≡ Value-F.Case k None → content_of ds n k ≡ Some None
        → IsOf ds (forms.OneOf n) v
    held : {n : ℕ} {v : Value} (k : ℕ) (w : Value) (t : Ty) → value.out-Value v ≡ Value-F.Case k (Some w)
        → content_of ds n k ≡ Some (Some t) → IsOf ds (form_of ds t) w
        → IsOf ds (forms.OneOf n) v

  -- values of one type
  pub data AreAll (ds : Decls) : Form → List Value → Type 0 where
    no_more : {t : Form} → AreAll ds t []
    one_more : {t : Form} {v : Value} {vs : List Value} → IsOf ds t v → AreAll ds t vs → AreAll ds t (v ∷ vs)

  -- a value for each type of a row
  pub data AreFields (ds : Decls) : Forms → List Value → Type 0 where
    last_field : AreFields ds forms.Last []
    next_field : {t : Form} {ts : Forms} {v : Value} {vs : List Value} → IsOf ds t v → AreFields ds ts vs
        → AreFields ds (forms.More t ts) (v ∷ vs)

-- ---- what is read of a value of a type

pub reads_truth : (ds : Decls) (v : Value) → IsOf ds forms.Truth v
    → (b : Bool) × (value.out-Value v ≡ Value-F.Boolean b)
reads_truth ds v (truth b is) = (b, is)

pub reads_whole : (ds : Decls) (v : Value) → IsOf ds forms.Whole v → (n : ℤ) × (value.out-Value v ≡ Value-F.Integer n)
reads_whole ds v (whole n is) = (n, is)

pub reads_fraction : (ds : Decls) (v : Value) → IsOf ds forms.Fraction v
    → (f : Fraction) × (value.out-Value v ≡ Value-F.Decimal f)
reads_fraction ds v (fraction f is) = (f, is)

pub reads_amount : (ds : Decls) (v : Value) → IsOf ds forms.Amount v → (n : ℤ) × (value.out-Value v ≡ Value-F.Money n)
reads_amount ds v (amount n is) = (n, is)

pub reads_day : (ds : Decls) (v : Value) → IsOf ds forms.Day v → (n : ℤ) × (value.out-Value v ≡ Value-F.Date n)
reads_day ds v (day n is) = (n, is)

pub reads_span : (ds : Decls) (v : Value) → IsOf ds forms.Span v
    → (s : SpanOf) × (value.out-Value v ≡ Value-F.Duration s)
reads_span ds v (span s is) = (s, is)

pub reads_many : (ds : Decls) (t : Form) (v : Value) → IsOf ds (forms.Many t) v
    → (vs : List Value) × (read.elements v ≡ Ok vs) × AreAll ds t vs
reads_many ds t v (many vs is all) = (vs, ap read.elements_in is, all)

pub reads_fields : (ds : Decls) (ts : Forms) (v : Value) → IsOf ds (forms.Fields ts) v
    → (vs : List Value) × (read.parts v ≡ Ok vs) × AreFields ds ts vs
reads_fields ds ts v (fields vs is all) = (vs, ap read.parts_in is, all)

-- what a case of an enumeration holds
pub data Holds (ds : Decls) (n : ℕ) (v : Value) : Type 0 where
  nothing : (k : ℕ) → read.case_of v ≡ Ok (k, None) → content_of ds n k ≡ Some None → Holds ds n v
  something : (k : ℕ) (w : Value) (t : Ty) → read.case_of v ≡ Ok (k, Some w) → content_of ds n k ≡ Some (Some t)
      → IsOf ds (form_of ds t) w → Holds ds n v

pub reads_case : (ds : Decls) (n : ℕ) (v : Value) → IsOf ds (forms.OneOf n) v → Holds ds n v
reads_case ds n v (bare k is none) = nothing k (ap read.case_in is) none
reads_case ds n v (held k w t is some inner) = something k w t (ap read.case_in is) some inner

-- ---- what is made of values of types

pub of_truth : (ds : Decls) (b : Bool) → IsOf ds forms.Truth (flat.Boolean b)
of_truth ds b = truth b (value.outs-Boolean b)

pub of_whole : (ds : Decls) (n : ℤ) → IsOf ds forms.Whole (flat.Integer n)
of_whole ds n = whole n (value.outs-Integer n)

pub of_fraction : (ds : Decls) (f : Fraction) → IsOf ds forms.Fraction (flat.Decimal f)
of_fraction ds f = fraction f (value.outs-Decimal f)

pub of_amount : (ds : Decls) (n : ℤ) → IsOf ds forms.Amount (flat.Money n)
of_amount ds n = amount n (value.outs-Money n)

pub of_day : (ds : Decls) (n : ℤ) → IsOf ds forms.Day (flat.Date n)
of_day ds n = day n (value.outs-Date n)

pub of_span : (ds : Decls) (s : SpanOf) → IsOf ds forms.Span (flat.Duration s)
of_span ds s = span s (value.outs-Duration s)

pub of_many : (ds : Decls) (t : Form) (vs : List Value) → AreAll ds t vs → IsOf ds (forms.Many t) (value.List vs)
of_many ds t vs all = many vs (value.outs-List vs) all

pub of_fields : (ds : Decls) (ts : Forms) (vs : List Value) → AreFields ds ts vs
    → IsOf ds (forms.Fields ts) (value.Structure vs)
of_fields ds ts vs all = fields vs (value.outs-Structure vs) all

pub of_bare : (ds : Decls) (n k : ℕ) → content_of ds n k ≡ Some None → IsOf ds (forms.OneOf n) (value.Case k None)
of_bare ds n k is = bare k (value.outs-Case k None) is

pub of_held : (ds : Decls) (n k : ℕ) (w : Value) (t : Ty) → content_of ds n k ≡ Some (Some t) → IsOf ds (form_of ds t) w
    → IsOf ds (forms.OneOf n) (value.Case k (Some w))
of_held ds n k w t is inner = held k w t (value.outs-Case k (Some w)) is inner

-- one more at the end
pub all_then : (ds : Decls) (t : Form) (vs : List Value) (v : Value) → AreAll ds t vs → IsOf ds t v
    → AreAll ds t (vs ++ v ∷ [])
all_then ds t [] v no_more is = one_more is no_more
all_then ds t (w ∷ vs) v (one_more first rest) is = one_more first (all_then ds t vs v rest is)
