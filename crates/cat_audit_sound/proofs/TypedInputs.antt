-- The input of a valuation's points is well typed.
use Rattle.std.proofs.Common.{◌≡◌, ℕ, zero, suc, ◌+◌, ◌<◌, ◌≤◌, not, Bool, true, false, IsTrue, List, []}
use Rattle.std.proofs.Common.{◌∷◌, length, Option, Some, None, ℤ, slice_get, refl, sym, ap, ◌∙◌, subst, arith}
use Rattle.std.proofs.Common.{true≢false}
use Rattle.std.proofs.Common.{sub-one, if◌then◌else◌}
use Rattle.std.specs.List.{list_all}
use Rattle.cat_num.specs.Frac.{Fraction, is_reduced}
use Rattle.cat_num.specs.Whole.{fits}
use Rattle.cat_date.specs.Calendar.{is_day}
use Rattle.cat_value.specs.declared.decls.Decls.{Decls}
use Rattle.cat_value.specs.declared.declaration.Case.{Case}
use Rattle.cat_value.specs.declared.declaration.Enumeration.{Enumeration}
use Rattle.cat_value.specs.declared.declaration.Field.{Field}
use Rattle.cat_value.specs.declared.declaration.ItemDecl.{ItemDecl}
use Rattle.cat_value.specs.declared.declaration.Kind.{Kind}
use Rattle.cat_value.specs.declared.declaration.Kind.TheVariants as kind
use Rattle.cat_value.specs.declared.declaration.Scope.{Scope}
use Rattle.cat_value.specs.declared.ty.Ty.{Ty}
use Rattle.cat_value.specs.declared.ty.Ty.TheOpen.{Ty-F}
use Rattle.cat_value.specs.declared.ty.Ty.TheVariants as flat_ty
use Rattle.cat_value.specs.declared.ty.Ty.TheViews as ty
use Rattle.cat_value.specs.declared.ty.Ty.TheViews.{out-Ty}
use Rattle.cat_value.specs.declared.value.Value.{Value}
use Rattle.cat_value.specs.declared.value.Value.TheViews as value
use Rattle.cat_value.specs.Declarations.{field_is_sound, highest, is_boolean}
use Rattle.cat_value.specs.Defaults.{default_of}
use Rattle.cat_value.specs.Entries.{content_in, case_in, content_of, some_passes}
use Rattle.cat_value.specs.Flat.{integer_typed, decimal_typed, money_typed, date_typed}
use Rattle.cat_value.specs.Heights.{height_to, highest_field}
use Rattle.cat_value.specs.Inputs.{must_be_given, may_be_given, is_given_for, are_given_for, IsWellTyped}
use Rattle.cat_value.specs.Laws.{AreSound, IsItem}
use Rattle.cat_value.specs.Typing.{content_has_type, has_type, is_type, fields_have_types}
use Rattle.cat_value.proofs.Exported.{content_declared, fields_declared, found, has_type_Boolean, has_type_Case}
use Rattle.cat_value.proofs.Exported.{height_positive, fields_lower}
use Rattle.cat_value.proofs.Exported.{has_type_Date, has_type_Decimal, has_type_Integer, has_type_Money}
use Rattle.cat_value.proofs.Exported.{has_type_Structure, structure_there, whole}
use Rattle.cat_region.specs.declared.dim.Dim.{Dim}
use Rattle.cat_region.specs.declared.dim.Dim.TheVariants as dim
use Rattle.cat_region.specs.declared.point.Point.{Point}
use Rattle.cat_region.specs.declared.point.Point.TheVariants as point
use Rattle.cat_region.specs.Points.{is_point}
use Rattle.cat_region.specs.Regions.{Valuation, IsValuation, is_point_of}
use Rattle.cat_scope.specs.Names.{items_in, scope_items}
use Rattle.cat_guard.specs.declared.table.InputPath.{InputPath}
use Rattle.cat_guard.specs.declared.table.Table.{Table}
use Rattle.cat_guard.specs.declared.table.Term.{Term}
use Rattle.cat_guard.specs.Valuations.{dims_of}
use Rattle.cat_audit_sound.specs.PointInputs.{is_at, point_from, variable, field_of, case_with, value_at, or_default}
use Rattle.cat_audit_sound.specs.PointInputs.{with_point, fields_from, part_to, given_for, given_from, input_at}
use Rattle.cat_audit_sound.proofs.PartEquations.{part_Structure, part_other}
use Rattle.cat_sound.proofs.Exported.{same_some}
use Rattle.cat_audit_sound.proofs.RunValues.{and_both, not_true}
use Rattle.cat_audit_sound.proofs.StandingDefs.{given_typed}
use Rattle.cat_audit_sound.proofs.TypedDefaults.{default_of_typed}

-- ---- points that are in the range of their kind

whole_fits : (d : Dim) (n : ℤ) → IsTrue (is_point d (point.Whole n)) → IsTrue (fits n)
whole_fits dim.Whole n h = h
whole_fits dim.Money n h = not_true h
whole_fits dim.Day n h = not_true h
whole_fits dim.Decimal n h = not_true h
whole_fits dim.Truth n h = not_true h
whole_fits (dim.Cases k) n h = not_true h

money_fits : (d : Dim) (n : ℤ) → IsTrue (is_point d (point.Money n)) → IsTrue (fits n)
money_fits dim.Money n h = h
money_fits dim.Whole n h = not_true h
money_fits dim.Day n h = not_true h
money_fits dim.Decimal n h = not_true h
money_fits dim.Truth n h = not_true h
money_fits (dim.Cases k) n h = not_true h

day_fits : (d : Dim) (n : ℤ) → IsTrue (is_point d (point.Day n)) → IsTrue (is_day n)
day_fits dim.Day n h = h
day_fits dim.Whole n h = not_true h
day_fits dim.Money n h = not_true h
day_fits dim.Decimal n h = not_true h
day_fits dim.Truth n h = not_true h
day_fits (dim.Cases k) n h = not_true h

decimal_fits : (d : Dim) (f : Fraction) → IsTrue (is_point d (point.Decimal f)) → IsTrue (is_reduced f)
decimal_fits dim.Decimal f h = h
decimal_fits dim.Whole f h = not_true h
decimal_fits dim.Money f h = not_true h
decimal_fits dim.Day f h = not_true h
decimal_fits dim.Truth f h = not_true h
decimal_fits (dim.Cases k) f h = not_true h

abbrev IsPointOfSome : Point → Type 0
IsPointOfSome x = (d : Dim) × IsTrue (is_point d x)

abbrev is_structured : Ty-F Ty → Bool
is_structured (Ty-F.Structure n) = true
is_structured _ = false

may_must : (k : Kind) → must_be_given k ≡ true → IsTrue (may_be_given k)
may_must kind.Input h = refl
may_must kind.InputOutput h = refl
may_must kind.Context h = refl
may_must kind.ContextOutput h = refl
may_must kind.Internal h = not_true h
may_must kind.Output h = not_true h
may_must (kind.Called scope) h = not_true h

module _ (ds : Decls) (sound : AreSound ds) where
  abbrev height : ℕ → Ty → ℕ
  height k t = height_to ds.structures ds.enumerations k t

  abbrev Typed : Value → Ty → Type 0
  Typed v t = IsTrue (has_type ds v t)

  -- a case with the default of its content, where there is such a case
  case_typed : (t : Ty) (n k : ℕ) → t ≡ flat_ty.Enumeration n → IsTrue (is_type ds t)
      → Typed (or_default ds t (case_with ds k (content_of ds n k))) t
  case_typed t n k form declared = by (slice_get ds.enumerations n) refl
    where
      one : (content : Option Value) → IsTrue (some_passes (content_has_type ds content) (content_of ds n k))
          → Typed (value.Case k content) t
      one content h =
          subst (λ (x : Ty). Typed (value.Case k content) x) (sym form) (has_type_Case ds k content n ∙ h)

      with_content : (d : Enumeration) → slice_get ds.enumerations n ≡ Some d → (c : Case)
          → slice_get d.cases k ≡ Some c → (o : Option Ty) → c.content ≡ o
          → Typed (or_default ds t (case_with ds k (Some o))) t
      with_content d e c f None g =
          one None (ap (λ x. some_passes (content_has_type ds None) (case_in k x)) e
          ∙ ap (λ x. some_passes (content_has_type ds None) (content_in x)) f ∙ ap (content_has_type ds None) g)
      with_content d e c f (Some u) g =
          one (Some (default_of ds u))
          (ap (λ x. some_passes (content_has_type ds (Some (default_of ds u))) (case_in k x)) e
          ∙ ap (λ x. some_passes (content_has_type ds (Some (default_of ds u))) (content_in x)) f
          ∙ ap (content_has_type ds (Some (default_of ds u))) g
          ∙ default_of_typed ds sound u (content_declared ds n k d c u e f g))

      at_case : (d : Enumeration) → slice_get ds.enumerations n ≡ Some d → (o : Option Case) → slice_get d.cases k ≡ o
          → Typed (or_default ds t (case_with ds k (content_in o))) t
      at_case d e None f = default_of_typed ds sound t declared
      at_case d e (Some c) f = with_content d e c f c.content refl

      by : (o : Option Enumeration) → slice_get ds.enumerations n ≡ o
          → Typed (or_default ds t (case_with ds k (case_in k o))) t
      by None e = default_of_typed ds sound t declared
      by (Some d) e = at_case d e (slice_get d.cases k) refl

  point_typed : (t : Ty) → IsTrue (is_type ds t) → (x : Point) → IsPointOfSome x
      → Typed (or_default ds t (value_at ds (out-Ty t) x)) t
  point_typed t declared x valid = by (out-Ty t) refl x valid
    where
      by : (y : Ty-F Ty) → out-Ty t ≡ y → (x : Point) → IsPointOfSome x → Typed (or_default ds t (value_at ds y x)) t
      by Ty-F.Boolean is (point.Truth b) valid = has_type_Boolean ds b t ∙ ap is_boolean is
      by Ty-F.Integer is (point.Whole n) valid =
          has_type_Integer ds n t ∙ ap (integer_typed n) is ∙ whole_fits valid.0 n valid.1
      by Ty-F.Decimal is (point.Decimal f) valid =
          has_type_Decimal ds f t ∙ ap (decimal_typed f) is ∙ decimal_fits valid.0 f valid.1
      by Ty-F.Money is (point.Money n) valid =
          has_type_Money ds n t ∙ ap (money_typed n) is ∙ money_fits valid.0 n valid.1
      by Ty-F.Date is (point.Day n) valid = has_type_Date ds n t ∙ ap (date_typed n) is ∙ day_fits valid.0 n valid.1
      by (Ty-F.Enumeration n) is (point.Case k) valid =
          case_typed t n k (whole t (Ty-F.Enumeration n) (flat_ty.Enumeration n) is (ty.rolls-Enumeration n)) declared
      by _ is _ valid = default_of_typed ds sound t declared

  module _ (points : InputPath → Option Point)
      (valid : (p : InputPath) (x : Point) → points p ≡ Some x → IsPointOfSome x) where
    with_point_typed : (t : Ty) → IsTrue (is_type ds t) → (p : InputPath) → Typed (with_point ds t (points p)) t
    with_point_typed t declared p = by (points p) refl
      where
        by : (o : Option Point) → points p ≡ o → Typed (with_point ds t o) t
        by None e = default_of_typed ds sound t declared
        by (Some x) e = point_typed t declared x (valid p x e)

    -- parts of types that are at most k high are typed
    abbrev AreTyped : ℕ → Type 0
    AreTyped k = (p : InputPath) (t : Ty) → IsTrue (is_type ds t) → height k t ≤ k → Typed (part_to ds points k p t) t

    fields_typed : (k : ℕ) → AreTyped k → (p : InputPath) (i : ℕ) (fs : List Field)
        → IsTrue (list_all (field_is_sound ds.structures ds.enumerations) fs) → highest_field (height k) fs ≤ k
        → IsTrue (fields_have_types ds (fields_from (part_to ds points k) p i fs) fs)
    fields_typed k typed p i [] d h = refl
    fields_typed k typed p i (f ∷ fs) d h =
        let first = typed (field_of p i) f.ty (grind arith) (grind arith) in
        let rest = fields_typed k typed p (i + 1) fs (grind arith) (grind arith) in
        grind arith

    part_typed : (k : ℕ) → AreTyped k
    part_typed zero p t declared h =
        absurd (omega (arith, h, height_positive ds.structures ds.enumerations zero t))
    part_typed (suc k) p t declared h = by (part_typed k) (out-Ty t) refl
      where
        above : 0 < suc k
        above = omega arith

        plain : is_structured (out-Ty t) ≡ false → Typed (part_to ds points (suc k) p t) t
        plain other =
            subst (λ v. Typed v t)
            (sym (part_other ds points p (suc k) t above
            (λ n e. true≢false (sym (ap is_structured (ty.outs-Structure n))
            ∙ ap (λ (x : Ty). is_structured (out-Ty x)) (sym e) ∙ other))))
            (with_point_typed t declared p)

        by : AreTyped k → (y : Ty-F Ty) → out-Ty t ≡ y → Typed (part_to ds points (suc k) p t) t
        by lower (Ty-F.Structure n) is =
            let form = whole t (Ty-F.Structure n) (flat_ty.Structure n) is (ty.rolls-Structure n) in
            let s = found ds.structures n
            (structure_there ds n (subst (λ (x : Ty). IsTrue (is_type ds x)) form declared))
            in
            let low = fields_lower ds.structures ds.enumerations (suc k) n s.0
            (subst (λ (x : Ty). height (suc k) x ≤ suc k) form h) s.1 in
            let parts = fields_typed k lower p 0 s.0.fields (fields_declared ds n s.0 s.1) (rw sub-one at low) in
            subst (λ (x : Ty). Typed (part_to ds points (suc k) p x) x) (sym form)
            (rw (
              part_Structure ds points p (suc k) n s.0 above s.1,
              sub-one,
              has_type_Structure ds (fields_from (part_to ds points k) p 0 s.0.fields) n,
              s.1,
            ) parts)
        by lower y is = plain (ap is_structured is)

    given_typed_for : (n : ℕ) (item : ItemDecl) → IsItem ds item
        → IsTrue (is_given_for ds item (given_for ds points n item))
    given_typed_for n item is = by (must_be_given item.kind) refl
      where
        by : (b : Bool) → must_be_given item.kind ≡ b
            → IsTrue (is_given_for ds item (if b then Some (part_to ds points highest (variable n) item.ty) else None))
        by true e = and_both _ _ (may_must item.kind e) (part_typed highest (variable n) item.ty is.declared is.low)
        by false e = ap not e

    all_typed : (n : ℕ) (items : List ItemDecl)
        → ((k : ℕ) (item : ItemDecl) → slice_get items k ≡ Some item → IsItem ds item)
        → IsTrue (are_given_for ds items (given_from ds points n items))
    all_typed n [] each = refl
    all_typed n (item ∷ items) each =
        and_both _ _ (given_typed_for n item (each 0 item refl))
        (all_typed (n + 1) items (λ k i at. each (suc k) i at))

  -- ---- the points of a valuation

  point_valid : (v : Valuation) (n : ℕ) (terms : List Term)
      → ((i : ℕ) → i < length terms → IsPointOfSome (v (n + i))) → (p : InputPath) (x : Point)
      → point_from v n terms p ≡ Some x → IsPointOfSome x
  point_valid v n [] each p x h = absurd (cc)
  point_valid v n (term ∷ terms) each p x h =
      by (is_at p term.path) h
      (point_valid v (n + 1) terms
      (λ i below. subst (λ (m : ℕ). IsPointOfSome (v m)) (omega arith) (each (suc i) (omega (arith, below)))) p x)
    where
      same_point : Some (v n) ≡ Some x → v n ≡ x
      same_point e = same_some (v n) x e

      by : (b : Bool) → (if b then Some (v n) else point_from v (n + 1) terms p) ≡ Some x
          → (point_from v (n + 1) terms p ≡ Some x → IsPointOfSome x) → IsPointOfSome x
      by true h rest =
          subst IsPointOfSome (same_point h)
          (subst (λ (m : ℕ). IsPointOfSome (v m)) (omega arith) (each 0 (omega arith)))
      by false h rest = rest h

  dims_length : (terms : List Term) → length (dims_of terms) ≡ length terms
  dims_length [] = refl
  dims_length (t ∷ ts) = ap suc (dims_length ts)

  valuation_points : (terms : List Term) (v : Valuation) → IsValuation (dims_of terms) v → (i : ℕ) → i < length terms
      → IsPointOfSome (v i)
  valuation_points terms v valid i below =
      by (slice_get (dims_of terms) i) (valid i (omega (arith, below, dims_length terms)))
    where
      by : (o : Option Dim) → IsTrue (is_point_of o (v i)) → IsPointOfSome (v i)
      by None h = not_true h
      by (Some d) h = (d, h)

  pub inputs_typed : (scope : ℕ) (decl : Scope) (table : Table) (v : Valuation) → slice_get ds.scopes scope ≡ Some decl
      → table.scope ≡ scope → IsValuation (dims_of table.terms) v → IsWellTyped ds scope (input_at ds table v)
  inputs_typed scope decl table v at is valid =
      let items : scope_items ds table.scope ≡ decl.items = ap (scope_items ds) is ∙ ap items_in at in
      let points = point_from v 0 table.terms in
      given_typed ds scope decl (input_at ds table v) at
      (subst (λ (xs : List ItemDecl). IsTrue (are_given_for ds decl.items (given_from ds points 0 xs))) (sym items)
      (all_typed points
      (point_valid v 0 table.terms
      (λ i below. subst (λ (m : ℕ). IsPointOfSome (v m)) (omega arith) (valuation_points table.terms v valid i below)))
      0 decl.items (λ k item there. sound.items scope k decl item at there)))
