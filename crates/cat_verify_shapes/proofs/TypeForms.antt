-- The numbers that stand for declared types.
use Rattle.std.proofs.Common.{◌≡◌, ℕ, List, Some, slice_get, sym, ap, ◌∙◌}
use Rattle.std.proofs.Common.{subst, arith}
use Rattle.std.specs.Prelude.{Result, Ok, Err, IfOk}
use Rattle.cat_value.specs.declared.ty.Ty.{Ty}
use Rattle.cat_value.specs.declared.ty.Ty.TheVariants as flat
use Rattle.cat_value.specs.declared.ty.Ty.TheViews as ty
use Rattle.cat_value.specs.declared.decls.Decls.{Decls}
use Rattle.cat_value.specs.Declarations.{highest}
use Rattle.cat_value.proofs.Exported.{list_height}
use Rattle.cat_code.specs.Forms as code
use Rattle.cat_code.specs.Forms.{level, form_of}
use Rattle.cat_code.proofs.FormLaws.{form_is, form_Boolean, form_Integer, form_Decimal, form_Money, form_Date}
use Rattle.cat_code.proofs.FormLaws.{form_Duration}
use Rattle.cat_code.proofs.FormLaws.{form_Enumeration}
use Rattle.cat_verify_shapes.specs.declared.forms.Form.{Form}
use Rattle.cat_verify_shapes.specs.declared.forms.Form.TheVariants as form
use Rattle.cat_verify_shapes.specs.declared.forms.Forms.{Forms}
use Rattle.cat_verify_shapes.specs.inside.Senses.{Senses, AreSenses, IsLow, Means, Stands}

pub element_low : (ds : Decls) (u t e : Ty) → t ≡ ty.List e → u ≡ e → IsLow ds t → IsLow ds u
element_low ds u t e is same low = subst (IsLow ds) (sym same) (below (subst (IsLow ds) is low))
  where
    below : IsLow ds (ty.List e) → IsLow ds e
    below h = omega (arith, h, list_height ds.structures ds.enumerations highest e)

pub form_List : (ds : Decls) (e : Ty) → IsLow ds (ty.List e) → form_of ds (ty.List e) ≡ code.Many (form_of ds e)
form_List ds e low = form_is ds (ty.List e) low ∙ ap (level ds (form_of ds)) (ty.outs-List e)

module _ (ds : Decls) (forms : Forms) where
  -- what is found is the number of an entry
  abbrev pub Found : {E : Type 0} → Result ℕ E → Form → Type 0
  Found r f = IfOk r (λ n. slice_get forms.kinds.keys n ≡ Some f)

  abbrev pub Stand : {E : Type 0} → Result ℕ E → code.Form → Type 0
  Stand r t = IfOk r (λ n. Stands ds forms n t)

  pub stands_by : {E : Type 0} (r : Result ℕ E) (f : Form) (t : code.Form)
      → ((d : Senses) → AreSenses ds forms d → (n : ℕ) → Means d n f → d.one n ≡ t) → Found r f → Stand r t
  stands_by (Ok n) f t told at = λ d h. told d h n (h.means n f at)
  stands_by (Err e) f t told at = tt

  pub stands_Boolean : {E : Type 0} (r : Result ℕ E) (t : Ty) → t ≡ flat.Boolean → Found r form.Truth
      → Stand r (form_of ds t)
  stands_Boolean r t is =
      stands_by r form.Truth (form_of ds t) (λ d h n m. m ∙ sym (form_Boolean ds) ∙ ap (form_of ds) (sym is))

  pub stands_Integer : {E : Type 0} (r : Result ℕ E) (t : Ty) → t ≡ flat.Integer → Found r form.Whole
      → Stand r (form_of ds t)
  stands_Integer r t is =
      stands_by r form.Whole (form_of ds t) (λ d h n m. m ∙ sym (form_Integer ds) ∙ ap (form_of ds) (sym is))

  pub stands_Decimal : {E : Type 0} (r : Result ℕ E) (t : Ty) → t ≡ flat.Decimal → Found r form.Fraction
      → Stand r (form_of ds t)
  stands_Decimal r t is =
      stands_by r form.Fraction (form_of ds t) (λ d h n m. m ∙ sym (form_Decimal ds) ∙ ap (form_of ds) (sym is))

  pub stands_Money : {E : Type 0} (r : Result ℕ E) (t : Ty) → t ≡ flat.Money → Found r form.Amount
      → Stand r (form_of ds t)
  stands_Money r t is =
      stands_by r form.Amount (form_of ds t) (λ d h n m. m ∙ sym (form_Money ds) ∙ ap (form_of ds) (sym is))

  pub stands_Date : {E : Type 0} (r : Result ℕ E) (t : Ty) → t ≡ flat.Date → Found r form.Day → Stand r (form_of ds t)
  stands_Date r t is =
      stands_by r form.Day (form_of ds t) (λ d h n m. m ∙ sym (form_Date ds) ∙ ap (form_of ds) (sym is))

  pub stands_Duration : {E : Type 0} (r : Result ℕ E) (t : Ty) → t ≡ flat.Duration → Found r form.Span
      → Stand r (form_of ds t)
  stands_Duration r t is =
      stands_by r form.Span (form_of ds t) (λ d h n m. m ∙ sym (form_Duration ds) ∙ ap (form_of ds) (sym is))

  pub stands_Enumeration : {E : Type 0} (r : Result ℕ E) (t : Ty) (k : ℕ) → t ≡ flat.Enumeration k
      → Found r (form.OneOf k) → Stand r (form_of ds t)
  stands_Enumeration r t k is =
      stands_by r (form.OneOf k) (form_of ds t) (λ d h n m. m ∙ sym (form_Enumeration ds k) ∙ ap (form_of ds) (sym is))

  pub stands_Structure : {E : Type 0} (r : Result ℕ E) (t : Ty) (s : ℕ) → t ≡ flat.Structure s
      → IfOk r (λ n. slice_get forms.structures s ≡ Some (Some n)) → Stand r (form_of ds t)
  stands_Structure (Ok n) t s is at = λ d h. h.structures s n at ∙ ap (form_of ds) (sym is)
  stands_Structure (Err e) t s is at = tt

  pub stands_List : {E : Type 0} (r : Result ℕ E) (t e u : Ty) (m : ℕ) → IsLow ds t → t ≡ ty.List e → u ≡ e
      → Stands ds forms m (form_of ds u) → Found r (form.Many m) → Stand r (form_of ds t)
  stands_List r t e u m low is same stands =
      stands_by r (form.Many m) (form_of ds t) (λ d h n means.
      means ∙ ap code.Many (stands d h ∙ ap (form_of ds) same) ∙ sym (form_List ds e (subst (IsLow ds) is low))
      ∙ ap (form_of ds) (sym is))
