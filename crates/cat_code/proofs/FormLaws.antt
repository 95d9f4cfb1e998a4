-- The types that shapes speak of, as declared types tell them, and types that are the same.
use Rattle.std.proofs.Common.{◌≡◌, ◌≤◌, ℕ, zero, suc, ◌&&◌, Bool, true, false, true≢false, Option, Some, None}
use Rattle.std.proofs.Common.{List, [], ◌∷◌, slice_get, refl, sym, ap, ◌∙◌, arith}
use Rattle.std.proofs.lemmas.Bool.{eqb-true, eq-eqb}
use Rattle.cat_value.specs.declared.ty.Ty.{Ty}
use Rattle.cat_value.specs.declared.ty.Ty.TheOpen.{Ty-F}
use Rattle.cat_value.specs.declared.ty.Ty.TheVariants as flat
use Rattle.cat_value.specs.declared.ty.Ty.TheViews as ty
use Rattle.cat_value.specs.declared.ty.Ty.TheViews.{out-Ty}
use Rattle.cat_value.specs.declared.declaration.Field.{Field}
use Rattle.cat_value.specs.declared.declaration.Structure.{Structure}
use Rattle.cat_value.specs.declared.decls.Decls.{Decls}
use Rattle.cat_value.specs.Declarations.{highest}
use Rattle.cat_value.specs.Heights.{height_to, highest_field, structure_parts, highest_part}
use Rattle.cat_value.specs.Entries.{fields_in}
use Rattle.cat_value.proofs.Exported.{height_step, height_zero}
use Rattle.cat_code.specs.Forms.{Form, Forms, Truth, Whole, Fraction, Amount, Day, Span, Many, Fields, OneOf, Last}
use Rattle.cat_code.specs.Forms.{More, same_form, same_forms, forms_in, structure_form, level, form_to, form_of}

-- ---- one level, and the next

pub form_step : (ds : Decls) (k : ℕ) (t : Ty) → form_to ds (suc k) t ≡ level ds (form_to ds k) (out-Ty t)
unfolding form_to
form_step ds k t = refl

-- two ways to tell types that agree on what is at most so high
module _ (f g : Ty → Form) (height : Ty → ℕ) (k : ℕ) (same : (t : Ty) → height t ≤ k → f t ≡ g t) where
  fields_same : (fs : List Field) → highest_field height fs ≤ k → forms_in f fs ≡ forms_in g fs
  fields_same [] low = refl
  fields_same (x ∷ fs) low =
      ap (λ (t : Form). More t (forms_in f fs)) (same x.ty (omega arith))
      ∙ ap (λ (ts : Forms). More (g x.ty) ts) (fields_same fs (omega arith))

  structure_same : (o : Option Structure) → structure_parts height o ≤ k
      → structure_form f (fields_in o) ≡ structure_form g (fields_in o)
  structure_same None low = refl
  structure_same (Some s) low = ap Fields (fields_same s.fields low)

  level_same : (ds : Decls) (y : Ty-F Ty) → highest_part ds.structures ds.enumerations height y ≤ k
      → level ds f y ≡ level ds g y
  level_same ds (Ty-F.List t) low = ap Many (same t low)
  level_same ds (Ty-F.Structure n) low = structure_same (slice_get ds.structures n) low
  level_same ds (Ty-F.Enumeration n) low = refl
  level_same ds Ty-F.Boolean low = refl
  level_same ds Ty-F.Integer low = refl
  level_same ds Ty-F.Decimal low = refl
  level_same ds Ty-F.Money low = refl
  level_same ds Ty-F.Date low = refl
  level_same ds Ty-F.Duration low = refl

form_deeper : (ds : Decls) (k : ℕ) (t : Ty) → height_to ds.structures ds.enumerations k t ≤ k
    → form_to ds k t ≡ form_to ds (suc k) t
form_deeper ds zero t low = absurd (omega (arith, height_zero ds.structures ds.enumerations t))
form_deeper ds (suc k) t low =
    form_step ds k t
    ∙ level_same (form_to ds k) (form_to ds (suc k)) (height_to ds.structures ds.enumerations k) k (form_deeper ds k) ds
    (out-Ty t)
    (omega (arith, height_step ds.structures ds.enumerations k t, low))
    ∙ sym (form_step ds (suc k) t)

-- a type that is no higher than types may be is told by its parts
pub form_is : (ds : Decls) (t : Ty) → height_to ds.structures ds.enumerations highest t ≤ highest
    → form_of ds t ≡ level ds (form_of ds) (out-Ty t)
form_is ds t low =
    form_step ds 63 t
    ∙ level_same (form_to ds 63) (form_to ds 64) (height_to ds.structures ds.enumerations 63) 63 (form_deeper ds 63) ds
    (out-Ty t)
    (omega (arith, height_step ds.structures ds.enumerations 63 t, low))

-- ---- types without parts

pub form_Boolean : (ds : Decls) → form_of ds flat.Boolean ≡ Truth
form_Boolean ds = form_step ds 63 flat.Boolean ∙ ap (level ds (form_to ds 63)) ty.outs-Boolean

pub form_Integer : (ds : Decls) → form_of ds flat.Integer ≡ Whole
form_Integer ds = form_step ds 63 flat.Integer ∙ ap (level ds (form_to ds 63)) ty.outs-Integer

pub form_Decimal : (ds : Decls) → form_of ds flat.Decimal ≡ Fraction
form_Decimal ds = form_step ds 63 flat.Decimal ∙ ap (level ds (form_to ds 63)) ty.outs-Decimal

pub form_Money : (ds : Decls) → form_of ds flat.Money ≡ Amount
form_Money ds = form_step ds 63 flat.Money ∙ ap (level ds (form_to ds 63)) ty.outs-Money

pub form_Date : (ds : Decls) → form_of ds flat.Date ≡ Day
form_Date ds = form_step ds 63 flat.Date ∙ ap (level ds (form_to ds 63)) ty.outs-Date

pub form_Duration : (ds : Decls) → form_of ds flat.Duration ≡ Span
form_Duration ds = form_step ds 63 flat.Duration ∙ ap (level ds (form_to ds 63)) ty.outs-Duration

pub form_Enumeration : (ds : Decls) (n : ℕ) → form_of ds (flat.Enumeration n) ≡ OneOf n
form_Enumeration ds n = form_step ds 63 (flat.Enumeration n) ∙ ap (level ds (form_to ds 63)) (ty.outs-Enumeration n)

-- ---- types that are the same

both_so : (a b : Bool) → (a && b) ≡ true → (a ≡ true) × (b ≡ true)
both_so true b e = (refl, e)
both_so false b e = absurd (true≢false (sym e))

mutual
  pub same_is : (t u : Form) → same_form t u ≡ true → t ≡ u
  same_is Truth Truth e = refl
  same_is Whole Whole e = refl
  same_is Fraction Fraction e = refl
  same_is Amount Amount e = refl
  same_is Day Day e = refl
  same_is Span Span e = refl
  same_is (Many t) (Many u) e = ap Many (same_is t u e)
  same_is (Fields ts) (Fields us) e = ap Fields (sames_are ts us e)
  same_is (OneOf n) (OneOf m) e = ap OneOf (eqb-true n m e)
  same_is _ _ e = absurd (true≢false (sym e))

  sames_are : (ts us : Forms) → same_forms ts us ≡ true → ts ≡ us
  sames_are Last Last e = refl
  sames_are (More t ts) (More u us) e =
      let parts = both_so (same_form t u) (same_forms ts us) e in
      ap (λ (f : Form). More f ts) (same_is t u parts.0) ∙ ap (λ (fs : Forms). More u fs) (sames_are ts us parts.1)
  sames_are _ _ e = absurd (true≢false (sym e))

pub both_true : (a b : Bool) → a ≡ true → b ≡ true → (a && b) ≡ true
both_true true b e f = f
both_true false b e f = absurd (true≢false (sym e))

mutual
  pub same_self : (t : Form) → same_form t t ≡ true
  same_self Truth = refl
  same_self Whole = refl
  same_self Fraction = refl
  same_self Amount = refl
  same_self Day = refl
  same_self Span = refl
  same_self (Many t) = same_self t
  same_self (Fields ts) = same_selves ts
  same_self (OneOf n) = eq-eqb n n refl

  same_selves : (ts : Forms) → same_forms ts ts ≡ true
  same_selves Last = refl
  same_selves (More t ts) = both_true (same_form t t) (same_forms ts ts) (same_self t) (same_selves ts)
