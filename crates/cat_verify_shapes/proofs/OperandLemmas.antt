-- What calls tell of operands that were taken, of types that were looked up, and of cases.
use Rattle.std.proofs.Common.{◌≡◌, ◌≤◌, ◌<◌, inl, inr, ℕ, ◌+◌, nat_le, Bool, true, false, List, [], ◌∷◌}
use Rattle.std.proofs.Common.{Option, Some, None, slice_get, refl, sym, ap, ◌∙◌, subst, arith}
use Rattle.std.proofs.lemmas.Bool.Decides.{nat_tests}
use Rattle.std.specs.Prelude.{Result, Ok, Err, IfOk, IfSome}
use Rattle.std.specs.Option.{option_map}
use Rattle.std.specs.declared.alloc.AllocError.{AllocError}
use Rattle.cat_value.specs.declared.ty.Ty.{Ty}
use Rattle.cat_value.specs.declared.declaration.Case.{Case}
use Rattle.cat_value.specs.declared.declaration.Enumeration.{Enumeration}
use Rattle.cat_value.specs.declared.decls.Decls.{Decls}
use Rattle.cat_value.specs.Entries.{content_of, content_in, case_in}
use Rattle.cat_code.specs.declared.code.CasePlace.{CasePlace}
use Rattle.cat_code.specs.declared.code.Tables.{Tables}
use Rattle.cat_code.specs.Forms.{form_of}
use Rattle.cat_code.specs.Leads.{Flow, with}
use Rattle.cat_verify_shapes.specs.declared.forms.Forms.{Forms}
use Rattle.cat_verify_shapes.specs.declared.forms.Form.{Form}
use Rattle.cat_verify_shapes.specs.declared.forms.Form.TheVariants as form
use Rattle.cat_verify_shapes.specs.declared.making.CaseForm.{CaseForm}
use Rattle.cat_verify_shapes.specs.declared.shape.Shape.{Shape}
use Rattle.cat_verify_shapes.specs.declared.leads.Leads.{Leads}
use Rattle.cat_verify_shapes.specs.declared.leads.Leads.TheVariants as leads
use Rattle.cat_verify_shapes.specs.inside.Senses.{Senses, AreSenses, IsLow}
use Rattle.cat_verify_shapes.specs.inside.Operators.{TakesForm, TakesBoth, is_compared, Compares, GivesForm}
use Rattle.cat_verify_shapes.specs.inside.Making.{IsCaseOf}
use Rattle.cat_verify_shapes.proofs.DeclLemmas.{content_low}
use Rattle.cat_verify_shapes.proofs.ListLemmas.{none_some}
use Rattle.cat_verify_shapes.proofs.StepLemmas.{with_is, with_not}
use Rattle.cat_verify_shapes.proofs.MakingSteps.{IsNoFields}
use Rattle.cat_verify_shapes.proofs.CountLemmas.{same_not}

-- ---- numbers

pub le_so : (a b : ℕ) → a ≤ b → nat_le a b ≡ true
le_so a b h = grind (arith, nat_tests)

pub le_not : (a b : ℕ) → (a ≤ b → ⊥) → nat_le a b ≡ false
le_not a b h =
    let less : b < a = omega (arith, h) in
    grind (arith, nat_tests)

-- ---- what is on top

pub top_none : (ops : List ℕ) → None ≡ slice_get ops 0 → ops ≡ []
top_none [] e = refl
top_none (n ∷ ops) e = absurd (none_some n e)

pub top_some : (ops : List ℕ) (n : ℕ) → Some n ≡ slice_get ops 0 → (rest : List ℕ) × (ops ≡ n ∷ rest)
top_some [] n e = absurd (none_some n (sym e))
top_some (m ∷ ops) n e = (ops, ap (λ (k : ℕ). k ∷ ops) (sym (ap or_m e)))
  where
    or_m : Option ℕ → ℕ
    or_m None = m
    or_m (Some k) = k

module _ (forms : Forms) where
  -- ---- operators

  pub takes_left : (r : Result Bool AllocError) (s q t : Shape) (left right : Form) → TakesForm forms s q right true
      → IfOk r (TakesForm forms q t left) → IfOk r (TakesBoth forms s t left right)
  takes_left (Ok true) s q t left right had is = (q, had, is)
  takes_left (Ok false) s q t left right had is = (q, inr (had, is))
  takes_left (Err e) s q t left right had is = tt

  pub takes_no_right : (s q : Shape) (left right : Form) (so : Bool) → TakesForm forms s q right so → so ≡ false
      → TakesBoth forms s q left right false
  takes_no_right s q left right so is off = (q, inl (subst (TakesForm forms s q right) off is))

  pub gives_form : (r : Result Leads AllocError) (p : ℕ) (s : Shape) (f : Form) (n : ℕ)
      → slice_get forms.kinds.keys n ≡ Some f
      → IfOk r (λ to. to ≡ leads.One (p + 1) (record s { operands = n ∷ s.operands }))
      → IfOk r (GivesForm forms p s f)
  gives_form (Ok to) p s f n at e = (n, at, e)
  gives_form (Err e) p s f n at is = tt

  pub compares_none : (before after : Shape) (ordered : Bool) → before.operands ≡ []
      → Compares forms before after ordered false
  compares_none before after ordered e = inl (inl e)

  pub compares_one : (before after : Shape) (ordered : Bool) (n : ℕ) (ops : List ℕ) → before.operands ≡ n ∷ ops
      → ops ≡ [] → Compares forms before after ordered false
  compares_one before after ordered n ops e none =
      inl (inr (inl (n, e ∙ ap (λ (os : List ℕ). n ∷ os) none)))

  pub compares_unlike : (before after : Shape) (ordered : Bool) (n m : ℕ) (ops ns : List ℕ)
      → before.operands ≡ n ∷ ops → ops ≡ m ∷ ns → (m ≡ n → ⊥) → Compares forms before after ordered false
  compares_unlike before after ordered n m ops ns e f other =
      inl (inr (inr (n, m, ns, e ∙ ap (λ (os : List ℕ). n ∷ os) f, same_not m n other)))

  pub compares_by : (before : Shape) (ordered : Bool) (n m : ℕ) (ops ns : List ℕ) (f : Form) (so : Bool)
      → before.operands ≡ n ∷ ops → ops ≡ m ∷ ns → m ≡ n → slice_get forms.kinds.keys n ≡ Some f
      → so ≡ is_compared f ordered → Compares forms before (record before { operands = ns }) ordered so
  compares_by before ordered n m ops ns f so e g same at is = by_test so is
    where
      two : before.operands ≡ n ∷ n ∷ ns
      two = e ∙ ap (λ (os : List ℕ). n ∷ os) (g ∙ ap (λ (k : ℕ). k ∷ ns) same)

      by_test : (so : Bool) → so ≡ is_compared f ordered
          → Compares forms before (record before { operands = ns }) ordered so
      by_test true is = (n, f, ap (λ (os : List ℕ). record before { operands = os }) two, at, sym is)
      by_test false is = inr (n, f, ns, record { operands = two; entry = at }, sym is)

-- ---- fields

pub no_fields : (f : Form) → ((row : ℕ) → f ≡ form.Fields row → ⊥) → IsNoFields f
no_fields (form.Fields row) other = other row refl
no_fields form.Truth other = tt
no_fields form.Whole other = tt
no_fields form.Fraction other = tt
no_fields form.Amount other = tt
no_fields form.Day other = tt
no_fields form.Span other = tt
no_fields (form.Many n) other = tt
no_fields (form.OneOf n) other = tt
no_fields form.Last other = tt
no_fields (form.More n m) other = tt

-- ---- cases

module _ (tables : Tables) (forms : Forms) (k : ℕ) where
  -- what goes on with a case and its content
  abbrev at_case : (CasePlace → Option Ty → Flow) → CasePlace → Flow
  at_case go place = with (content_of tables.decls place.enumeration place.case) (λ content. go place content)

  pub case_none : slice_get tables.cases k ≡ None → IsCaseOf tables forms k None
  case_none e = λ go. with_not (slice_get tables.cases k) (at_case go) (sym e)

  module _ (place : CasePlace) (is : slice_get tables.cases k ≡ Some place) where
    pub enumeration_none : slice_get tables.decls.enumerations place.enumeration ≡ None
        → IsCaseOf tables forms k None
    enumeration_none e = λ go.
        with_is (slice_get tables.cases k) place (at_case go) (sym is)
        ∙ with_not (content_of tables.decls place.enumeration place.case) (go place)
        (sym (ap (case_in place.case) e))

    module _ (enumeration : Enumeration)
        (found : slice_get tables.decls.enumerations place.enumeration ≡ Some enumeration) where
      pub case_missing : slice_get enumeration.cases place.case ≡ None → IsCaseOf tables forms k None
      case_missing e = λ go.
          with_is (slice_get tables.cases k) place (at_case go) (sym is)
          ∙ with_not (content_of tables.decls place.enumeration place.case) (go place)
          (sym (ap (case_in place.case) found ∙ ap content_in e))

      pub case_found : (case : Case) (c : CaseForm) → slice_get enumeration.cases place.case ≡ Some case
          → slice_get forms.kinds.keys c.whole ≡ Some (form.OneOf place.enumeration)
          → ((d : Senses) → AreSenses tables.decls forms d
          → option_map d.one c.content ≡ option_map (form_of tables.decls) case.content)
          → IsCaseOf tables forms k (Some c)
      case_found case c e whole content = (
        place,
        case.content,
        is,
        ap (case_in place.case) found ∙ ap content_in e,
        λ d h. (h.means c.whole (form.OneOf place.enumeration) whole, content d h),
      )

pub contents_low : (ds : Decls) (n k : ℕ) (e : Enumeration) (case : Case) → slice_get ds.enumerations n ≡ Some e
    → slice_get e.cases k ≡ Some case → IfSome case.content (IsLow ds)
contents_low ds n k e case is at = by_content case.content refl
  where
    by_content : (content : Option Ty) → case.content ≡ content → IfSome content (IsLow ds)
    by_content None has = tt
    by_content (Some t) has = content_low ds n k e case t is at has
