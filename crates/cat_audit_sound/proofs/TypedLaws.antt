-- The parts of an input are of their types.
use Rattle.std.proofs.Common.{◌≡◌, ℕ, zero, suc, ◌+◌, ◌++◌, ◌-◌, ◌<◌, Bool, IsTrue, List, [], ◌∷◌, drop}
use Rattle.std.proofs.Common.{Option, Some, None, slice_get, refl, sym, ap, ◌∙◌, subst, ℤ, arith}
use Rattle.std.proofs.lemmas.List.{append_assoc}
use Rattle.cat_num.specs.Whole.{fits}
use Rattle.cat_num.specs.Frac.{Fraction, is_reduced}
use Rattle.cat_date.specs.Calendar.{is_day}
use Rattle.cat_value.specs.declared.decls.Decls.{Decls}
use Rattle.cat_value.specs.declared.declaration.Case.{Case}
use Rattle.cat_value.specs.declared.declaration.Enumeration.{Enumeration}
use Rattle.cat_value.specs.declared.declaration.ItemDecl.{ItemDecl}
use Rattle.cat_value.specs.declared.declaration.Structure.{Structure}
use Rattle.cat_value.specs.declared.ty.Ty.{Ty}
use Rattle.cat_value.specs.declared.ty.Ty.TheVariants as flat_ty
use Rattle.cat_value.specs.declared.ty.Ty.TheViews as ty
use Rattle.cat_value.specs.declared.value.Value.{Value}
use Rattle.cat_value.specs.declared.value.Value.TheVariants as flat
use Rattle.cat_value.specs.declared.value.Value.TheViews as value
use Rattle.cat_value.specs.Entries.{content_of}
use Rattle.cat_value.specs.declared.declaration.Scope.{Scope}
use Rattle.cat_value.specs.Inputs.{are_given_for, is_given_for, is_input_of, IsWellTyped}
use Rattle.cat_region.specs.declared.point.Point.{Point}
use Rattle.cat_guard.specs.declared.table.InputPath.{InputPath}
use Rattle.cat_value.specs.Typing.{has_type, fields_have_types}
use Rattle.cat_value.proofs.Exported.{has_type_Boolean, has_type_Integer, has_type_Decimal, has_type_Money}
use Rattle.cat_value.proofs.Exported.{has_type_Date, has_type_Structure, has_type_Case}
use Rattle.cat_audit_sound.specs.PointInputs.{case_with, part_to, fields_from, given_for, given_from}
use Rattle.cat_audit_sound.specs.inside.TypedParts.{IsPart, AreParts}
use Rattle.cat_audit_sound.proofs.PartEquations.{part_Structure}

pub typed_Boolean : (ds : Decls) (b : Bool) → IsTrue (has_type ds (flat.Boolean b) flat_ty.Boolean)
typed_Boolean ds b = rw (has_type_Boolean ds b flat_ty.Boolean, ty.outs-Boolean) refl

pub typed_Integer : (ds : Decls) (n : ℤ) → IsTrue (fits n) → IsTrue (has_type ds (flat.Integer n) flat_ty.Integer)
typed_Integer ds n h = rw (has_type_Integer ds n flat_ty.Integer, ty.outs-Integer) h

pub typed_Decimal : (ds : Decls) (f : Fraction) → IsTrue (is_reduced f)
    → IsTrue (has_type ds (flat.Decimal f) flat_ty.Decimal)
typed_Decimal ds f h = rw (has_type_Decimal ds f flat_ty.Decimal, ty.outs-Decimal) h

pub typed_Money : (ds : Decls) (n : ℤ) → IsTrue (fits n) → IsTrue (has_type ds (flat.Money n) flat_ty.Money)
typed_Money ds n h = rw (has_type_Money ds n flat_ty.Money, ty.outs-Money) h

pub typed_Date : (ds : Decls) (day : ℤ) → IsTrue (is_day day) → IsTrue (has_type ds (flat.Date day) flat_ty.Date)
typed_Date ds day h = rw (has_type_Date ds day flat_ty.Date, ty.outs-Date) h

pub content_is : (ds : Decls) (n k : ℕ) (d : Enumeration) (c : Case) → slice_get ds.enumerations n ≡ Some d
    → slice_get d.cases k ≡ Some c → content_of ds n k ≡ Some c.content
content_is ds n k d c e f = rw (e, f) refl

-- a case of an enumeration, with a content where it has one
pub case_plain : (ds : Decls) (n k : ℕ) → content_of ds n k ≡ Some None
    → (case_with ds k (content_of ds n k) ≡ Some (value.Case k None))
    × IsTrue (has_type ds (value.Case k None) (flat_ty.Enumeration n))
case_plain ds n k e = (rw e refl, rw (has_type_Case ds k None n, e) refl)

pub case_full : (ds : Decls) (n k : ℕ) (t : Ty) (v : Value) → content_of ds n k ≡ Some (Some t)
    → case_with ds k (Some (Some t)) ≡ Some (value.Case k (Some v)) → IsTrue (has_type ds v t)
    → (case_with ds k (content_of ds n k) ≡ Some (value.Case k (Some v)))
    × IsTrue (has_type ds (value.Case k (Some v)) (flat_ty.Enumeration n))
case_full ds n k t v e is typed = (rw e is, rw (has_type_Case ds k (Some v) n, e) typed)

pub structure_typed : (ds : Decls) (n : ℕ) (s : Structure) (vs : List Value) → slice_get ds.structures n ≡ Some s
    → IsTrue (fields_have_types ds vs s.fields) → IsTrue (has_type ds (value.Structure vs) (flat_ty.Structure n))
structure_typed ds n s vs e h = rw (has_type_Structure ds vs n, e) h

-- a structure of the values of its fields
pub structure_part : (ds : Decls) (points : InputPath → Option Point) (path : InputPath) (k : ℕ) (t : Ty) (n : ℕ)
    (s : Structure)
    (vs : List Value) → 0 < k → t ≡ flat_ty.Structure n → slice_get ds.structures n ≡ Some s
    → AreParts ds s.fields (fields_from (part_to ds points (k - 1)) path 0 s.fields) vs
    → IsPart ds t (part_to ds points k path t) (value.Structure vs)
structure_part ds points path k t n s vs h is e parts =
    subst (λ (u : Ty). IsPart ds u (part_to ds points k path u) (value.Structure vs)) (sym is) (record {
      is = ap value.Structure parts.are ∙ sym (part_Structure ds points path k n s h e);
      typed = structure_typed ds n s vs e parts.typed;
    })

-- ---- lists that are made from their front

pub drop_at : {A : Type 0} (xs : List A) (i : ℕ) (x : A) → slice_get xs i ≡ Some x → drop i xs ≡ x ∷ drop (i + 1) xs
drop_at [] i x e = absurd (cc)
drop_at (y ∷ ys) zero x e = grind arith
drop_at (y ∷ ys) (suc i) x e =
    let next : suc i + 1 ≡ suc (i + 1) = omega arith in
    subst (λ (j : ℕ). drop i ys ≡ x ∷ drop j (y ∷ ys)) (sym next) (drop_at ys i x e)

pub given_more : (ds : Decls) (input : List (Option Value)) (g : Option Value) (items : List ItemDecl) (i : ℕ)
    (item : ItemDecl)
    → ((rest : List (Option Value)) → IsTrue (are_given_for ds (drop i items) rest)
    → IsTrue (are_given_for ds items (input ++ rest)))
    → slice_get items i ≡ Some item → IsTrue (is_given_for ds item g)
    → (rest : List (Option Value)) → IsTrue (are_given_for ds (drop (i + 1) items) rest)
    → IsTrue (are_given_for ds items (input ++ g ∷ [] ++ rest))
given_more ds input g items i item typed at one rest more =
    subst (λ (gs : List (Option Value)). IsTrue (are_given_for ds items gs)) (sym (append_assoc input (g ∷ []) rest))
    (typed (g ∷ rest) (rw (drop_at items i item at, one) more))

pub made_more : (ds : Decls) (points : InputPath → Option Point) (all input : List (Option Value)) (g : Option Value)
    (items : List ItemDecl) (n : ℕ) (item : ItemDecl)
    → input ++ given_from ds points n (drop n items) ≡ all → slice_get items n ≡ Some item
    → g ≡ given_for ds points n item → input ++ g ∷ [] ++ given_from ds points (n + 1) (drop (n + 1) items) ≡ all
made_more ds points all input g items n item made at is =
    append_assoc input (g ∷ []) (given_from ds points (n + 1) (drop (n + 1) items))
    ∙ ap (λ h. input ++ (h ∷ given_from ds points (n + 1) (drop (n + 1) items))) is
    ∙ sym (ap (λ xs. input ++ given_from ds points n xs) (drop_at items n item at)) ∙ made

pub well_typed_of : (ds : Decls) (scope : ℕ) (decl : Scope) (input : List (Option Value))
    → slice_get ds.scopes scope ≡ Some decl → IsTrue (are_given_for ds decl.items input) → IsWellTyped ds scope input
unfolding is_input_of
well_typed_of ds scope decl input e h = rw e h

pub ruleset typed_points = (typed_Boolean, typed_Integer, typed_Decimal, typed_Money, typed_Date)
