-- A value of a declared type is one of that type as shapes speak of it.
use Rattle.std.proofs.Common.{◌≡◌, ◌≤◌, ℕ, ℤ, ◌+◌, nat_le, ◌&&◌, Bool, true, true≢false, IsTrue, List, [], ◌∷◌, length}
use Rattle.std.proofs.Common.{Option, Some, None, slice_get, refl, sym, ap, ◌∙◌, subst, arith}
use Rattle.std.specs.List.{list_all}
use Rattle.std.proofs.lemmas.Bool.{le-leb, leb-true}
use Rattle.cat_num.specs.Frac.{Fraction}
use Rattle.cat_date.specs.Span.{SpanOf}
use Rattle.cat_value.specs.declared.ty.Ty.{Ty}
use Rattle.cat_value.specs.declared.ty.Ty.TheOpen.{Ty-F}
use Rattle.cat_value.specs.declared.ty.Ty.TheVariants as flat_ty
use Rattle.cat_value.specs.declared.ty.Ty.TheViews as ty
use Rattle.cat_value.specs.declared.ty.Ty.TheViews.{out-Ty}
use Rattle.cat_value.specs.declared.value.Value.{Value}
use Rattle.cat_value.specs.declared.value.Value.TheVariants as flat
use Rattle.cat_value.specs.declared.value.Value.TheViews as value
use Rattle.cat_value.specs.declared.declaration.Field.{Field}
use Rattle.cat_value.specs.declared.declaration.Structure.{Structure}
use Rattle.cat_value.specs.declared.decls.Decls.{Decls}
use Rattle.cat_value.specs.Declarations.{highest, is_boolean, is_sound, field_is_sound}
use Rattle.cat_value.specs.Heights.{height_to, highest_field}
use Rattle.cat_value.specs.Entries.{some_passes, fields_in, content_of}
use Rattle.cat_value.specs.Flat.{integer_typed, decimal_typed, money_typed, date_typed, duration_typed}
use Rattle.cat_value.specs.Laws.{AreSound}
use Rattle.cat_value.specs.Typing.{is_type, most_elements, has_type, all_have_type, fields_have_types, content_has_type}
use Rattle.cat_value.proofs.Exported.{Each, Within, value_induction, has_type_Boolean, has_type_Integer}
use Rattle.cat_value.proofs.Exported.{has_type_Decimal, has_type_Money, has_type_Date, has_type_Duration, level_cut}
use Rattle.cat_value.proofs.Exported.{height_Structure, structure_low, fields_declared, within}
use Rattle.cat_value.proofs.Inversions.{list_of, structure_of, case_of}
use Rattle.cat_scope.specs.Fitting.{is_low_type}
use Rattle.cat_sound.specs.LowTypes.{IsLow}
use Rattle.cat_sound.proofs.Results.{both}
use Rattle.cat_sound.proofs.LowTypes.{element_low, content_low}
use Rattle.cat_code.specs.Forms.{Form, forms_in, structure_form, level, form_of}
use Rattle.cat_code.specs.Forms as forms
use Rattle.cat_code.proofs.FormLaws.{form_is}
use Rattle.cat_code_sound.proofs.ValueKinds.{IsOf, AreAll, AreFields, of_truth, of_whole, of_fraction, of_amount}
use Rattle.cat_code_sound.proofs.ValueKinds.{of_day, of_span, of_many, of_fields, of_bare, of_held}
use Rattle.cat_code_sound.proofs.ValueKinds as kinds

-- ---- types that may stand in a declaration

pub low_type : (ds : Decls) (t : Ty) → IsTrue (is_type ds t)
    → height_to ds.structures ds.enumerations highest t ≤ highest → IsLow ds t
low_type ds t declared low =
    record { declared = declared; low = le-leb (height_to ds.structures ds.enumerations highest t) highest low }

pub low_of : (ds : Decls) (t : Ty) → IsTrue (is_sound ds.structures ds.enumerations t) → IsLow ds t
low_of ds t sound = let parts = both (is_type ds t) (is_low_type ds t) sound in
    record { declared = parts.0; low = parts.1 }

-- ---- by the level of a type

-- a value is of a type whose level is told
at_level : (ds : Decls) (t : Ty) (y : Ty-F Ty) (v : Value) → IsLow ds t → out-Ty t ≡ y
    → IsOf ds (level ds (form_of ds) y) v
    → IsOf ds (form_of ds t) v
at_level ds t y v low is typed =
    let told = form_is ds t (leb-true (height_to ds.structures ds.enumerations highest t) highest low.low) in
    subst (λ (f : Form). IsOf ds f v) (sym (told ∙ ap (level ds (form_of ds)) is)) typed

abbrev Told : Decls → Value → Type 0
Told ds v = (t : Ty) → IsTrue (has_type ds v t) → IsLow ds t → IsOf ds (form_of ds t) v

told_Boolean : (ds : Decls) (b : Bool) → Told ds (flat.Boolean b)
told_Boolean ds b t typed low = by (out-Ty t) refl (sym (has_type_Boolean ds b t) ∙ typed)
  where
    by : (y : Ty-F Ty) → out-Ty t ≡ y → is_boolean y ≡ true → IsOf ds (form_of ds t) (flat.Boolean b)
    by Ty-F.Boolean is so = at_level ds t Ty-F.Boolean (flat.Boolean b) low is (of_truth ds b)
    by _ is so = absurd (true≢false (sym so))

told_Integer : (ds : Decls) (n : ℤ) → Told ds (flat.Integer n)
told_Integer ds n t typed low = by (out-Ty t) refl (sym (has_type_Integer ds n t) ∙ typed)
  where
    by : (y : Ty-F Ty) → out-Ty t ≡ y → integer_typed n y ≡ true → IsOf ds (form_of ds t) (flat.Integer n)
    by Ty-F.Integer is so = at_level ds t Ty-F.Integer (flat.Integer n) low is (of_whole ds n)
    by _ is so = absurd (true≢false (sym so))

told_Decimal : (ds : Decls) (f : Fraction) → Told ds (flat.Decimal f)
told_Decimal ds f t typed low = by (out-Ty t) refl (sym (has_type_Decimal ds f t) ∙ typed)
  where
    by : (y : Ty-F Ty) → out-Ty t ≡ y → decimal_typed f y ≡ true → IsOf ds (form_of ds t) (flat.Decimal f)
    by Ty-F.Decimal is so = at_level ds t Ty-F.Decimal (flat.Decimal f) low is (of_fraction ds f)
    by _ is so = absurd (true≢false (sym so))

told_Money : (ds : Decls) (n : ℤ) → Told ds (flat.Money n)
told_Money ds n t typed low = by (out-Ty t) refl (sym (has_type_Money ds n t) ∙ typed)
  where
    by : (y : Ty-F Ty) → out-Ty t ≡ y → money_typed n y ≡ true → IsOf ds (form_of ds t) (flat.Money n)
    by Ty-F.Money is so = at_level ds t Ty-F.Money (flat.Money n) low is (of_amount ds n)
    by _ is so = absurd (true≢false (sym so))

told_Date : (ds : Decls) (day : ℤ) → Told ds (flat.Date day)
told_Date ds day t typed low = by (out-Ty t) refl (sym (has_type_Date ds day t) ∙ typed)
  where
    by : (y : Ty-F Ty) → out-Ty t ≡ y → date_typed day y ≡ true → IsOf ds (form_of ds t) (flat.Date day)
    by Ty-F.Date is so = at_level ds t Ty-F.Date (flat.Date day) low is (of_day ds day)
    by _ is so = absurd (true≢false (sym so))

told_Duration : (ds : Decls) (span : SpanOf) → Told ds (flat.Duration span)
told_Duration ds span t typed low = by (out-Ty t) refl (sym (has_type_Duration ds span t) ∙ typed)
  where
    by : (y : Ty-F Ty) → out-Ty t ≡ y → duration_typed span y ≡ true → IsOf ds (form_of ds t) (flat.Duration span)
    by Ty-F.Duration is so = at_level ds t Ty-F.Duration (flat.Duration span) low is (of_span ds span)
    by _ is so = absurd (true≢false (sym so))

module _ (ds : Decls) (sound : AreSound ds) where
  -- ---- lists

  elements_told : (vs : List Value) (t : Ty) → Each (Told ds) vs → all_have_type ds vs t ≡ true → IsLow ds t
      → AreAll ds (form_of ds t) vs
  elements_told [] t each all low = kinds.no_more
  elements_told (v ∷ vs) t each all low =
      let parts = both (has_type ds v t) (all_have_type ds vs t) all in
      kinds.one_more (each.0 t parts.0 low) (elements_told vs t each.1 parts.1 low)

  told_List : (vs : List Value) → Each (Told ds) vs → Told ds (value.List vs)
  told_List vs each t typed low =
      let is = list_of ds vs t typed in
      let parts = both (is_type ds is.0 && nat_le (length vs) most_elements) (all_have_type ds vs is.0) is.2 in
      let element = element_low ds sound is.0 (subst (IsLow ds) is.1 low) in
      at_level ds t (Ty-F.List is.0) (value.List vs) low (ap out-Ty is.1 ∙ ty.outs-List is.0)
      (of_many ds (form_of ds is.0) vs (elements_told vs is.0 each parts.1 element))

  -- ---- structures

  field_low : (t : Ty) → IsTrue (is_type ds t) → height_to ds.structures ds.enumerations 63 t ≤ 63 → IsLow ds t
  field_low t declared low = low_type ds t declared (omega (arith, level_cut ds.structures ds.enumerations 63 t, low))

  fields_told : (vs : List Value) (fs : List Field) → Each (Told ds) vs → fields_have_types ds vs fs ≡ true
      → list_all (field_is_sound ds.structures ds.enumerations) fs ≡ true
      → highest_field (height_to ds.structures ds.enumerations 63) fs ≤ 63 → AreFields ds (forms_in (form_of ds) fs) vs
  fields_told [] [] each all declared low = kinds.last_field
  fields_told [] (f ∷ fs) each all declared low = absurd (true≢false (sym all))
  fields_told (v ∷ vs) [] each all declared low = absurd (true≢false (sym all))
  fields_told (v ∷ vs) (f ∷ fs) each all declared low =
      let parts = both (has_type ds v f.ty) (fields_have_types ds vs fs) all in
      let types =
      both (field_is_sound ds.structures ds.enumerations f)
      (list_all (field_is_sound ds.structures ds.enumerations) fs) declared in
      kinds.next_field (each.0 f.ty parts.0 (field_low f.ty types.0 (omega (arith, low))))
      (fields_told vs fs each.1 parts.1 types.1 (omega (arith, low)))

  told_Structure : (vs : List Value) → Each (Told ds) vs → Told ds (value.Structure vs)
  told_Structure vs each t typed low =
      let is = structure_of ds vs t typed in
      at_level ds t (Ty-F.Structure is.0) (value.Structure vs) low (ap out-Ty is.1 ∙ ty.outs-Structure is.0)
      (by is.0 (slice_get ds.structures is.0) refl is.2)
    where
      by : (n : ℕ) (o : Option Structure) → slice_get ds.structures n ≡ o
          → IsTrue (some_passes (fields_have_types ds vs) (fields_in o))
          → IsOf ds (structure_form (form_of ds) (fields_in o)) (value.Structure vs)
      by n None there so = absurd (true≢false (sym so))
      by n (Some s) there so =
          let height : height_to ds.structures ds.enumerations 64 (flat_ty.Structure n)
          ≡ 1 + highest_field (height_to ds.structures ds.enumerations 63) s.fields
          = height_Structure ds.structures ds.enumerations 63 n s there in
          let bound : height_to ds.structures ds.enumerations highest (flat_ty.Structure n) ≤ highest =
          structure_low ds n (within ds.structures n s there) in
          of_fields ds (forms_in (form_of ds) s.fields) vs
          (fields_told vs s.fields each so (fields_declared ds n s there) (omega (arith, height, bound)))

  -- ---- cases

  told_Case : (k : ℕ) (content : Option Value) → Within (Told ds) content → Told ds (value.Case k content)
  told_Case k content each t typed low =
      let is = case_of ds k content t typed in
      at_level ds t (Ty-F.Enumeration is.0) (value.Case k content) low (ap out-Ty is.1 ∙ ty.outs-Enumeration is.0)
      (by is.0 content each (content_of ds is.0 k) refl is.2)
    where
      by : (n : ℕ) (c : Option Value) → Within (Told ds) c → (o : Option (Option Ty)) → content_of ds n k ≡ o
          → IsTrue (some_passes (content_has_type ds c) o) → IsOf ds (forms.OneOf n) (value.Case k c)
      by n c each None there so = absurd (true≢false (sym so))
      by n None each (Some None) there so = of_bare ds n k there
      by n None each (Some (Some u)) there so = absurd (true≢false (sym so))
      by n (Some w) each (Some None) there so = absurd (true≢false (sym so))
      by n (Some w) each (Some (Some u)) there so =
          of_held ds n k w u there (each u so (content_low ds sound n k u there))

  -- a value of a declared type that may stand in a declaration
  pub typed_form : (v : Value) (t : Ty) → IsTrue (has_type ds v t) → IsLow ds t → IsOf ds (form_of ds t) v
  typed_form =
      value_induction (Told ds) (told_Boolean ds) (told_Integer ds) (told_Decimal ds) (told_Money ds) (told_Date ds)
      (told_Duration ds)
      told_List told_Structure told_Case
