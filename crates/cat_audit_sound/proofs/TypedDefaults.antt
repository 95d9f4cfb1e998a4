-- The default of a type is one of its values.
use Rattle.std.proofs.Common.{◌≡◌, ℕ, zero, suc, ◌≤◌, ◌&&◌, true, pos, IsTrue, List, [], ◌∷◌, Option, None, Some}
use Rattle.std.proofs.Common.{slice_get, arith, refl, sym, ap, ◌∙◌, subst}
use Rattle.std.specs.List.{list_all}
use Rattle.cat_num.specs.Frac.{gcd}
use Rattle.cat_value.specs.declared.ty.Ty.{Ty}
use Rattle.cat_value.specs.declared.ty.Ty.TheOpen.{Ty-F}
use Rattle.cat_value.specs.declared.ty.Ty.TheVariants as flat_ty
use Rattle.cat_value.specs.declared.ty.Ty.TheViews as ty
use Rattle.cat_value.specs.declared.ty.Ty.TheViews.{out-Ty}
use Rattle.cat_value.specs.declared.value.Value.{Value}
use Rattle.cat_value.specs.declared.value.Value.TheViews as value
use Rattle.cat_value.specs.declared.declaration.Field.{Field}
use Rattle.cat_value.specs.declared.declaration.Structure.{Structure}
use Rattle.cat_value.specs.declared.declaration.Case.{Case}
use Rattle.cat_value.specs.declared.declaration.Enumeration.{Enumeration}
use Rattle.cat_value.specs.declared.decls.Decls.{Decls}
use Rattle.cat_value.specs.Declarations.{field_is_sound, is_boolean}
use Rattle.cat_value.specs.Flat.{integer_typed, decimal_typed, money_typed, date_typed, duration_typed}
use Rattle.cat_value.specs.Heights.{content_height, height_to, highest_field, highest_content}
use Rattle.cat_value.specs.Laws.{AreSound}
use Rattle.cat_date.specs.Calendar.{first_day}
use Rattle.cat_sound.proofs.Exported.{same_some}
use Rattle.cat_value.specs.Typing.{has_type, is_type, fields_have_types}
use Rattle.cat_value.specs.Defaults.{default_at, default_to, default_of, default_fields}
use Rattle.cat_value.proofs.Exported.{content_declared, enumeration_low, enumeration_there, fields_declared, found}
use Rattle.cat_value.proofs.Exported.{has_type_Boolean, has_type_Case, has_type_Date, has_type_Decimal}
use Rattle.cat_value.proofs.Exported.{has_type_Duration}
use Rattle.cat_value.proofs.Exported.{has_type_Integer, has_type_List, has_type_Money, has_type_Structure}
use Rattle.cat_value.proofs.Exported.{height_Enumeration, height_Structure, is_declared_List, structure_low}
use Rattle.cat_value.proofs.Exported.{structure_there, whole}

no_height : (ds : Decls) (t : Ty) → height_to ds.structures ds.enumerations 0 t ≤ 0 → ⊥
unfolding height_to
no_height ds t h = omega (arith, h)

module _ (ds : Decls) (sound : AreSound ds) where
  abbrev height : ℕ → Ty → ℕ
  height k t = height_to ds.structures ds.enumerations k t

  -- the defaults of types that are at most k high are typed
  abbrev AreTyped : ℕ → Type 0
  AreTyped k = (t : Ty) → IsTrue (is_type ds t) → height k t ≤ k → IsTrue (has_type ds (default_to ds k t) t)

  fields_typed : (k : ℕ) → AreTyped k → (fs : List Field)
      → IsTrue (list_all (field_is_sound ds.structures ds.enumerations) fs) → highest_field (height k) fs ≤ k
      → IsTrue (fields_have_types ds (default_fields (default_to ds k) fs) fs)
  fields_typed k typed [] d h = refl
  fields_typed k typed (f ∷ fs) d h =
      let first = typed f.ty (grind arith) (grind arith) in
      let rest = fields_typed k typed fs (grind arith) (grind arith) in
      grind arith

  step : (k : ℕ) (t : Ty) (y : Ty-F Ty) → out-Ty t ≡ y → default_to ds (suc k) t ≡ default_at ds (default_to ds k) y
  unfolding default_to
  step k t y is = ap (default_at ds (default_to ds k)) is

  structure_typed : (k n : ℕ) (s : Structure) → AreTyped k → slice_get ds.structures n ≡ Some s
      → height (suc k) (flat_ty.Structure n) ≤ suc k
      → IsTrue (has_type ds (default_to ds (suc k) (flat_ty.Structure n)) (flat_ty.Structure n))
  structure_typed k n s typed e h =
      let parts = fields_typed k typed s.fields (fields_declared ds n s e)
      (omega (arith, h, height_Structure ds.structures ds.enumerations k n s e)) in
      rw (
        step k (flat_ty.Structure n) (Ty-F.Structure n) (ty.outs-Structure n),
        e,
        has_type_Structure ds (default_fields (default_to ds k) s.fields) n,
        e,
      ) parts

  first_content : (k bound : ℕ) (cases : List Case) (c : Case) (t : Ty) → highest_content (height k) cases ≤ bound
      → slice_get cases 0 ≡ Some c → c.content ≡ Some t → height k t ≤ bound
  first_content k bound [] c t h f g = absurd (cc)
  first_content k bound (d ∷ cases) c t h f g =
      let same : d.content ≡ Some t = ap (λ (x : Case). x.content) (same_some d c f) ∙ g in
      let this : content_height (height k) d.content ≡ height k t = ap (content_height (height k)) same in
      omega (arith, h, this)

  enumeration_typed : (k n : ℕ) (d : Enumeration) (c : Case) → AreTyped k → slice_get ds.enumerations n ≡ Some d
      → slice_get d.cases 0 ≡ Some c → height (suc k) (flat_ty.Enumeration n) ≤ suc k
      → IsTrue (has_type ds (default_to ds (suc k) (flat_ty.Enumeration n)) (flat_ty.Enumeration n))
  enumeration_typed k n d c typed e f h = by c.content refl
    where
      low : highest_content (height k) d.cases ≤ k
      low = omega (arith, h, height_Enumeration ds.structures ds.enumerations k n d e)

      by : (content : Option Ty) → c.content ≡ content
          → IsTrue (has_type ds (default_to ds (suc k) (flat_ty.Enumeration n)) (flat_ty.Enumeration n))
      by None g =
          rw (
            step k (flat_ty.Enumeration n) (Ty-F.Enumeration n) (ty.outs-Enumeration n),
            e,
            f,
            g,
            has_type_Case ds 0 None n,
            e,
            f,
            g,
          ) refl
      by (Some t) g =
          rw (
            step k (flat_ty.Enumeration n) (Ty-F.Enumeration n) (ty.outs-Enumeration n),
            e,
            f,
            g,
            has_type_Case ds 0 (Some (default_to ds k t)) n,
            e,
            f,
            g,
          ) (typed t (content_declared ds n 0 d c t e f g) (first_content k k d.cases c t low f g))

  -- the default of a type whose parts have typed defaults
  form_typed : (k : ℕ) → AreTyped k → (t : Ty) → IsTrue (is_type ds t)
      → ((n : ℕ) → t ≡ flat_ty.Structure n → height (suc k) t ≤ suc k)
      → ((n : ℕ) → t ≡ flat_ty.Enumeration n → height (suc k) t ≤ suc k)
      → IsTrue (has_type ds (default_to ds (suc k) t) t)
  unfolding gcd
  form_typed k typed t declared low_structure low_enumeration = by (out-Ty t) refl
    where
      made : (v : Value) (y : Ty-F Ty) → out-Ty t ≡ y → default_at ds (default_to ds k) y ≡ v → IsTrue (has_type ds v t)
          → IsTrue (has_type ds (default_to ds (suc k) t) t)
      made v y is e h = subst (λ x. IsTrue (has_type ds x t)) (sym (step k t y is ∙ e)) h

      by : (y : Ty-F Ty) → out-Ty t ≡ y → IsTrue (has_type ds (default_to ds (suc k) t) t)
      by Ty-F.Boolean is = made _ Ty-F.Boolean is refl (has_type_Boolean ds _ t ∙ ap is_boolean is)
      by Ty-F.Integer is = made _ Ty-F.Integer is refl (has_type_Integer ds _ t ∙ ap (integer_typed (pos 0)) is)
      by Ty-F.Decimal is =
          made _ Ty-F.Decimal is refl
          (has_type_Decimal ds _ t ∙ ap (decimal_typed (record { num = pos 0; den = 1 })) is)
      by Ty-F.Money is = made _ Ty-F.Money is refl (has_type_Money ds _ t ∙ ap (money_typed (pos 0)) is)
      by Ty-F.Date is = made _ Ty-F.Date is refl (has_type_Date ds _ t ∙ ap (date_typed first_day) is)
      by Ty-F.Duration is =
          made _ Ty-F.Duration is refl
          (has_type_Duration ds _ t ∙ ap (duration_typed (record { months = pos 0; days = pos 0 })) is)
      by (Ty-F.List u) is =
          let list = whole t (Ty-F.List u) (ty.List u) is (ty.rolls-List u) in
          made (value.List []) (Ty-F.List u) is refl
          (subst (λ (x : Ty). IsTrue (has_type ds (value.List []) x)) (sym list)
          (has_type_List ds [] u
          ∙ ap (λ b. b && true && true) (sym (is_declared_List ds.structures ds.enumerations u)
          ∙ ap (λ (x : Ty). is_type ds x) (sym list) ∙ declared)))
      by (Ty-F.Structure n) is =
          let form = whole t (Ty-F.Structure n) (flat_ty.Structure n) is (ty.rolls-Structure n) in
          let s = found ds.structures n (structure_there ds n (subst (λ (x : Ty). IsTrue (is_type ds x)) form declared))
          in
          subst (λ (x : Ty). IsTrue (has_type ds (default_to ds (suc k) x) x)) (sym form)
          (structure_typed k n s.0 typed s.1 (subst (λ (x : Ty). height (suc k) x ≤ suc k) form (low_structure n form)))
      by (Ty-F.Enumeration n) is =
          let form = whole t (Ty-F.Enumeration n) (flat_ty.Enumeration n) is (ty.rolls-Enumeration n) in
          let d = found ds.enumerations n
          (enumeration_there ds n (subst (λ (x : Ty). IsTrue (is_type ds x)) form declared)) in
          let c = found d.0.cases 0 (sound.enumerations n d.0 d.1).has_case in
          subst (λ (x : Ty). IsTrue (has_type ds (default_to ds (suc k) x) x)) (sym form)
          (enumeration_typed k n d.0 c.0 typed d.1 c.1
          (subst (λ (x : Ty). height (suc k) x ≤ suc k) form (low_enumeration n form)))

  default_typed : (k : ℕ) → AreTyped k
  default_typed zero t declared h = absurd (no_height ds t h)
  default_typed (suc k) t declared h = form_typed k (default_typed k) t declared (λ n e. h) (λ n e. h)

  pub default_of_typed : (t : Ty) → IsTrue (is_type ds t) → IsTrue (has_type ds (default_of ds t) t)
  default_of_typed t declared =
      form_typed 63 (default_typed 63) t declared
      (λ n e. subst (λ (x : Ty). height 64 x ≤ 64) (sym e)
      (structure_low ds n (structure_there ds n (subst (λ (x : Ty). IsTrue (is_type ds x)) e declared))))
      (λ n e. subst (λ (x : Ty). height 64 x ≤ 64) (sym e)
      (enumeration_low ds n (enumeration_there ds n (subst (λ (x : Ty). IsTrue (is_type ds x)) e declared))))
