-- What comparisons give, by the types that are compared.
use Rattle.std.proofs.Common.{◌≡◌, ℕ, ◌&&◌, Bool, true, false, true≢false, List, [], ◌∷◌, map, Option, Some, None, refl}
use Rattle.std.proofs.Common.{sym, ap, ◌∙◌}
use Rattle.std.specs.Prelude.{if◌then◌else◌}
use Rattle.cat_value.specs.declared.ty.Ty.{Ty}
use Rattle.cat_value.specs.declared.ty.Ty.TheVariants as ty
use Rattle.cat_value.specs.declared.decls.Decls.{Decls}
use Rattle.cat_scope.specs.Signatures.{comparison, ordered_types, compared_types}
use Rattle.cat_code.specs.Forms as code
use Rattle.cat_code.specs.Forms.{same_form, form_of}
use Rattle.cat_code.specs.Wanted.{signed}
use Rattle.cat_code.proofs.FormLaws.{form_Boolean, form_Integer, form_Decimal, form_Money, form_Date, form_Duration}
use Rattle.cat_code.proofs.FormLaws.{same_is}
use Rattle.cat_verify_shapes.specs.declared.forms.Form.{Form}
use Rattle.cat_verify_shapes.specs.declared.forms.Form.TheVariants as form
use Rattle.cat_verify_shapes.specs.inside.Senses.{Senses, Means}
use Rattle.cat_verify_shapes.specs.inside.Operators.{is_compared}

abbrev pub chosen : Bool → Ty → Option Ty → Option Ty
chosen so t other = if so then Some t else other

-- what is compared with itself gives a truth value, where its type is one of these
abbrev pub any_same : code.Form → List code.Form → Bool
any_same t [] = false
any_same t (u ∷ us) = if same_form t u then true else any_same t us

module _ (form_ : Ty → code.Form) where
  pub signed_self : (tys : List Ty) (t : code.Form)
      → signed form_ (map comparison tys) t t ≡ chosen (any_same t (map form_ tys)) ty.Boolean None
  signed_self [] t = refl
  signed_self (x ∷ tys) t = by_test (same_form t (form_ x)) (signed_self tys t)
    where
      by_test : (b : Bool)
          → signed form_ (map comparison tys) t t ≡ chosen (any_same t (map form_ tys)) ty.Boolean None
          → chosen (b && b) ty.Boolean (signed form_ (map comparison tys) t t)
          ≡ chosen (if b then true else any_same t (map form_ tys)) ty.Boolean None
      by_test true rest = refl
      by_test false rest = rest

  pub signed_apart : (tys : List Ty) (t u : code.Form) → same_form t u ≡ false
      → signed form_ (map comparison tys) t u ≡ None
  signed_apart [] t u other = refl
  signed_apart (x ∷ tys) t u other =
      by_tests (same_form t (form_ x)) (same_form u (form_ x)) refl refl (signed_apart tys t u other)
    where
      by_tests : (a b : Bool) → same_form t (form_ x) ≡ a → same_form u (form_ x) ≡ b
          → signed form_ (map comparison tys) t u ≡ None
          → chosen (a && b) ty.Boolean (signed form_ (map comparison tys) t u) ≡ None
      by_tests true true e f rest =
          absurd (true≢false (sym (ap (same_form t) (same_is u (form_ x) f) ∙ e) ∙ other))
      by_tests true false e f rest = rest
      by_tests false b e f rest = rest

module _ (ds : Decls) where
  pub ordered_forms : map (form_of ds) ordered_types
      ≡ code.Whole ∷ code.Fraction ∷ code.Amount ∷ code.Day ∷ code.Span ∷ []
  ordered_forms =
      ap (λ (t : code.Form). t ∷ form_of ds ty.Decimal ∷ form_of ds ty.Money ∷ form_of ds ty.Date
      ∷ form_of ds ty.Duration ∷ []) (form_Integer ds)
      ∙ ap (λ (t : code.Form). code.Whole ∷ t ∷ form_of ds ty.Money ∷ form_of ds ty.Date ∷ form_of ds ty.Duration ∷ [])
      (form_Decimal ds)
      ∙ ap (λ (t : code.Form). code.Whole ∷ code.Fraction ∷ t ∷ form_of ds ty.Date ∷ form_of ds ty.Duration ∷ [])
      (form_Money ds)
      ∙ ap (λ (t : code.Form). code.Whole ∷ code.Fraction ∷ code.Amount ∷ t ∷ form_of ds ty.Duration ∷ [])
      (form_Date ds)
      ∙ ap (λ (t : code.Form). code.Whole ∷ code.Fraction ∷ code.Amount ∷ code.Day ∷ t ∷ []) (form_Duration ds)

  pub compared_forms : map (form_of ds) compared_types
      ≡ code.Truth ∷ code.Whole ∷ code.Fraction ∷ code.Amount ∷ code.Day ∷ code.Span ∷ []
  compared_forms =
      ap (λ (t : code.Form). t ∷ map (form_of ds) ordered_types) (form_Boolean ds)
      ∙ ap (λ (ts : List code.Form). code.Truth ∷ ts) ordered_forms

abbrev pub forms_of : Bool → List code.Form
forms_of true = code.Whole ∷ code.Fraction ∷ code.Amount ∷ code.Day ∷ code.Span ∷ []
forms_of false = code.Truth ∷ code.Whole ∷ code.Fraction ∷ code.Amount ∷ code.Day ∷ code.Span ∷ []

any_at : (t u : code.Form) (b : Bool) → u ≡ t → (o : Bool) → any_same t (forms_of o) ≡ b → any_same u (forms_of o) ≡ b
any_at t u b e o h = ap (λ (v : code.Form). any_same v (forms_of o)) e ∙ h

pub any_is : (d : Senses) (n : ℕ) (f : Form) (o : Bool) → Means d n f
    → any_same (d.one n) (forms_of o) ≡ is_compared f o
any_is d n form.Truth true m = any_at code.Truth (d.one n) false m true refl
any_is d n form.Truth false m = any_at code.Truth (d.one n) true m false refl
any_is d n form.Whole true m = any_at code.Whole (d.one n) true m true refl
any_is d n form.Whole false m = any_at code.Whole (d.one n) true m false refl
any_is d n form.Fraction true m = any_at code.Fraction (d.one n) true m true refl
any_is d n form.Fraction false m = any_at code.Fraction (d.one n) true m false refl
any_is d n form.Amount true m = any_at code.Amount (d.one n) true m true refl
any_is d n form.Amount false m = any_at code.Amount (d.one n) true m false refl
any_is d n form.Day true m = any_at code.Day (d.one n) true m true refl
any_is d n form.Day false m = any_at code.Day (d.one n) true m false refl
any_is d n form.Span true m = any_at code.Span (d.one n) true m true refl
any_is d n form.Span false m = any_at code.Span (d.one n) true m false refl
any_is d n (form.Many k) true m = any_at (code.Many (d.one k)) (d.one n) false m true refl
any_is d n (form.Many k) false m = any_at (code.Many (d.one k)) (d.one n) false m false refl
any_is d n (form.Fields k) true m = any_at (code.Fields (d.row k)) (d.one n) false m true refl
any_is d n (form.Fields k) false m = any_at (code.Fields (d.row k)) (d.one n) false m false refl
any_is d n (form.OneOf k) true m = any_at (code.OneOf k) (d.one n) false m true refl
any_is d n (form.OneOf k) false m = any_at (code.OneOf k) (d.one n) false m false refl
any_is d n form.Last true m = any_at (code.OneOf m.1.0) (d.one n) false m.1.1 true refl
any_is d n form.Last false m = any_at (code.OneOf m.1.0) (d.one n) false m.1.1 false refl
any_is d n (form.More k l) true m = any_at (code.OneOf m.1.0) (d.one n) false m.1.1 true refl
any_is d n (form.More k l) false m = any_at (code.OneOf m.1.0) (d.one n) false m.1.1 false refl
