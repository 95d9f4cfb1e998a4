-- The forms of declared types that lowering meets: lists, structures with their fields, items, and what operators take
-- and give.
use Rattle.std.proofs.Common.{◌≡◌, ◌≤◌, ℕ, zero, suc, nat_le, ◌&&◌, Bool, true, false, List, [], ◌∷◌, map, Option}
use Rattle.std.proofs.Common.{Some, None, IsTrue, slice_get, refl, sym, ap, ◌∙◌, arith, true≢false}
use Rattle.std.proofs.Math.Logic.{⊎_elim}
use Rattle.std.proofs.lemmas.Bool.Decides.{nat_tests}
use Rattle.cat_value.specs.declared.ty.Ty.{Ty}
use Rattle.cat_value.specs.declared.ty.Ty.TheOpen.{Ty-F}
use Rattle.cat_value.specs.declared.ty.Ty.TheVariants as flat
use Rattle.cat_value.specs.declared.ty.Ty.TheViews as ty
use Rattle.cat_value.specs.declared.ty.Ty.TheViews.{out-Ty}
use Rattle.cat_value.specs.declared.declaration.Field.{Field}
use Rattle.cat_value.specs.declared.declaration.Structure.{Structure}
use Rattle.cat_value.specs.declared.declaration.ItemDecl.{ItemDecl}
use Rattle.cat_value.specs.declared.decls.Decls.{Decls}
use Rattle.cat_value.specs.Declarations.{highest, is_boolean}
use Rattle.cat_value.specs.Heights.{height_to}
use Rattle.cat_value.specs.Entries.{fields_in, fields_of}
use Rattle.cat_value.proofs.Exported.{height_Boolean, is_declared_Boolean, structure_low, within}
use Rattle.cat_scope.specs.Names.{AllHave, IsOneOf}
use Rattle.cat_scope.specs.declared.operators.SumKind.{SumKind}
use Rattle.cat_scope.specs.declared.operators.SumKind.TheVariants as sum
use Rattle.cat_scope.specs.Signatures.{Signature, comparison, signatures_of, summed_type}
use Rattle.cat_scope.specs.Lists.{adding}
use Rattle.cat_scope.specs.Fitting.{field_at, type_in, field_type}
use Rattle.cat_sound.specs.LowTypes.{IsLow}
use Rattle.cat_code.specs.Forms.{Form, Truth, Many, Fields, form_at, same_form, forms_in, structure_form, level}
use Rattle.cat_code.specs.Forms.{form_to, form_of, items_forms}
use Rattle.cat_code.specs.Wanted.{signed, are_params}
use Rattle.cat_code.proofs.FormLaws.{form_step, form_is, both_true, same_self}

-- ---- each form of type

-- a type that is found to be the boolean one
pub form_boolean : (ds : Decls) (t : Ty) → is_boolean (out-Ty t) ≡ true → form_of ds t ≡ Truth
form_boolean ds t is = form_step ds 63 t ∙ by (out-Ty t) is
  where
    by : (y : Ty-F Ty) → is_boolean y ≡ true → level ds (form_to ds 63) y ≡ Truth
    by Ty-F.Boolean so = refl
    by Ty-F.Integer so = absurd (true≢false (sym so))
    by Ty-F.Decimal so = absurd (true≢false (sym so))
    by Ty-F.Money so = absurd (true≢false (sym so))
    by Ty-F.Date so = absurd (true≢false (sym so))
    by Ty-F.Duration so = absurd (true≢false (sym so))
    by (Ty-F.List u) so = absurd (true≢false (sym so))
    by (Ty-F.Structure n) so = absurd (true≢false (sym so))
    by (Ty-F.Enumeration n) so = absurd (true≢false (sym so))

true_le : (a b : ℕ) → IsTrue (nat_le a b) → a ≤ b
true_le a b h = grind (arith, nat_tests)

le_true : (a b : ℕ) → a ≤ b → IsTrue (nat_le a b)
le_true a b h = grind (arith, nat_tests)

pub low_Boolean : (ds : Decls) → IsLow ds flat.Boolean
low_Boolean ds = record {
  declared = is_declared_Boolean ds.structures ds.enumerations;
  low = le_true _ highest (omega (arith, height_Boolean ds.structures ds.enumerations 63));
}

pub form_List : (ds : Decls) (t : Ty) → IsLow ds (ty.List t) → form_of ds (ty.List t) ≡ Many (form_of ds t)
form_List ds t is = form_is ds (ty.List t) (true_le _ highest is.low) ∙ ap (level ds (form_of ds)) (ty.outs-List t)

pub form_Structure : (ds : Decls) (n : ℕ) (fields : List Field) → fields_of ds n ≡ Some fields
    → form_of ds (flat.Structure n) ≡ Fields (forms_in (form_of ds) fields)
form_Structure ds n fields is =
    form_is ds (flat.Structure n) (by (slice_get ds.structures n) refl is)
    ∙ ap (level ds (form_of ds)) (ty.outs-Structure n) ∙ ap (structure_form (form_of ds)) is
  where
    by : (o : Option Structure) → slice_get ds.structures n ≡ o → fields_in o ≡ Some fields
        → height_to ds.structures ds.enumerations highest (flat.Structure n) ≤ highest
    by None there is = absurd (cc is)
    by (Some s) there is = structure_low ds n (within ds.structures n s there)

pub at_forms : (f : Ty → Form) (fs : List Field) (k : ℕ) (x : Field) → slice_get fs k ≡ Some x
    → form_at (forms_in f fs) k ≡ Some (f x.ty)
at_forms f [] k x is = absurd (cc is)
at_forms f (y ∷ fs) zero x is = let same : y ≡ x = cc is in ap (λ (z : Field). Some (f z.ty)) same
at_forms f (y ∷ fs) (suc k) x is = at_forms f fs k x is

pub at_items : (ds : Decls) (items : List ItemDecl) (k : ℕ) (x : ItemDecl) → slice_get items k ≡ Some x
    → form_at (items_forms ds items) k ≡ Some (form_of ds x.ty)
at_items ds [] k x is = absurd (cc is)
at_items ds (y ∷ items) zero x is = let same : y ≡ x = cc is in ap (λ (z : ItemDecl). Some (form_of ds z.ty)) same
at_items ds (y ∷ items) (suc k) x is = at_items ds items k x is

-- a field that has a type
pub record FieldForm (ds : Decls) (n k : ℕ) (t : Ty) : Type 0 where
  pub fields : List Field
  pub declared : fields_of ds n ≡ Some fields
  pub form : form_of ds (flat.Structure n) ≡ Fields (forms_in (form_of ds) fields)
  pub at : form_at (forms_in (form_of ds) fields) k ≡ Some (form_of ds t)

pub form_field : (ds : Decls) (n k : ℕ) (t : Ty) → field_type ds n k ≡ Some t → FieldForm ds n k t
form_field ds n k t is = by (fields_of ds n) refl is
  where
    at : (fields : List Field) → fields_of ds n ≡ Some fields → (o : Option Field) → slice_get fields k ≡ o
        → type_in o ≡ Some t
        → FieldForm ds n k t
    at fields there None stands is = absurd (cc is)
    at fields there (Some x) stands is =
        let same : x.ty ≡ t = cc is in
        record {
          fields = fields;
          declared = there;
          form = form_Structure ds n fields there;
          at = at_forms (form_of ds) fields k x stands ∙ ap (λ (u : Ty). Some (form_of ds u)) same;
        }

    by : (o : Option (List Field)) → fields_of ds n ≡ o → type_in (field_at o k) ≡ Some t → FieldForm ds n k t
    by None there is = absurd (cc is)
    by (Some fields) there is = at fields there (slice_get fields k) refl is

-- ---- types that operators take

pub params_are : (form : Ty → Form) (params : List Ty) → are_params form params (map form params) ≡ true
params_are form [] = refl
params_are form (p ∷ ps) =
    both_true (same_form (form p) (form p)) (are_params form ps (map form ps)) (same_self (form p)) (params_are form ps)

-- an operator gives the result that all its signatures have, where its operands are those of one
pub signed_result : (form : Ty → Form) (ss : List Signature) (s : Signature) (r : Ty)
    → AllHave (λ (u : Signature). u.result ≡ r) ss
    → IsOneOf s ss → signed form ss (form s.left) (form s.right) ≡ Some r
signed_result form [] s r all is = elim is [ ]
signed_result form (x ∷ ss) s r all is =
    by (same_form (form s.left) (form x.left) && same_form (form s.right) (form x.right)) refl
    (signed_result form ss s r all.1)
  where
    by : (b : Bool) → (same_form (form s.left) (form x.left) && same_form (form s.right) (form x.right)) ≡ b
        → (IsOneOf s ss → signed form ss (form s.left) (form s.right) ≡ Some r)
        → signed form (x ∷ ss) (form s.left) (form s.right) ≡ Some r
    by true e later = rw e (ap (λ (t : Ty). Some t) all.0)
    by false e later =
        let yes : s ≡ x → (same_form (form s.left) (form x.left) && same_form (form s.right) (form x.right)) ≡ true
        = λ same. both_true (same_form (form s.left) (form x.left)) (same_form (form s.right) (form x.right))
        (ap (λ (u : Signature). same_form (form s.left) (form u.left)) (sym same) ∙ same_self (form s.left))
        (ap (λ (u : Signature). same_form (form s.right) (form u.right)) (sym same) ∙ same_self (form s.right)) in
        rw e (⊎_elim (λ same. absurd (true≢false (sym (yes same) ∙ e))) later is)

-- the same where both operands are of a type that can be compared
pub compared_result : (form : Ty → Form) (ts : List Ty) (t : Ty) → IsOneOf t ts
    → signed form (map comparison ts) (form t) (form t) ≡ Some flat.Boolean
compared_result form [] t is = elim is [ ]
compared_result form (x ∷ ts) t is =
    by (same_form (form t) (form x) && same_form (form t) (form x)) refl (compared_result form ts t)
  where
    by : (b : Bool) → (same_form (form t) (form x) && same_form (form t) (form x)) ≡ b
        → (IsOneOf t ts → signed form (map comparison ts) (form t) (form t) ≡ Some flat.Boolean)
        → signed form (map comparison (x ∷ ts)) (form t) (form t) ≡ Some flat.Boolean
    by true e later = rw e refl
    by false e later =
        let yes : t ≡ x → (same_form (form t) (form x) && same_form (form t) (form x)) ≡ true
        = λ same. both_true (same_form (form t) (form x)) (same_form (form t) (form x))
        (ap (λ (u : Ty). same_form (form t) (form u)) (sym same) ∙ same_self (form t))
        (ap (λ (u : Ty). same_form (form t) (form u)) (sym same) ∙ same_self (form t)) in
        rw e (⊎_elim (λ same. absurd (true≢false (sym (yes same) ∙ e))) later is)

-- and where two of a kind are added
pub adding_result : (form : Ty → Form) (k : SumKind)
    → signed form (signatures_of (adding k)) (form (summed_type k)) (form (summed_type k)) ≡ Some (summed_type k)
adding_result form sum.Integers = let same = same_self (form flat.Integer) in rw same refl
adding_result form sum.Decimals = let same = same_self (form flat.Decimal) in rw same refl
adding_result form sum.Money = let same = same_self (form flat.Money) in rw same refl
adding_result form sum.Durations = let same = same_self (form flat.Duration) in rw same refl
