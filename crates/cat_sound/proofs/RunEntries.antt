-- Entries of items, assertions and outputs in a run.
use Rattle.std.proofs.Common.{◌≡◌, ℕ, zero, suc, ◌<◌, Bool, true, false, ◌&&◌, ◌||◌, not, IsTrue, List, [], ◌∷◌}
use Rattle.std.proofs.Common.{length, Option, Some, slice_get, refl, sym, ap, ◌∙◌, subst, arith, true≢false}
use Rattle.std.proofs.Common.{if◌then◌else◌}
use Rattle.std.specs.Prelude.{nat_eq}
use Rattle.std.proofs.lemmas.Bool.Decides.{nat_tests}
use Rattle.cat_value.specs.declared.ty.Ty.TheVariants as flat_ty
use Rattle.cat_value.specs.declared.value.Value.{Value}
use Rattle.cat_value.specs.declared.decls.Decls.{Decls}
use Rattle.cat_value.specs.declared.outcome.FaultKind.TheVariants.{AssertionFailed}
use Rattle.cat_value.specs.declared.declaration.Kind.{Kind}
use Rattle.cat_value.specs.declared.declaration.Kind.TheVariants as kind
use Rattle.cat_value.specs.declared.declaration.ItemDecl.{ItemDecl}
use Rattle.cat_value.specs.Inputs.{may_be_given, is_given_for, are_given_for, is_output, outputs_in}
use Rattle.cat_scope.specs.declared.stop.Stop.TheVariants.{Fault}
use Rattle.cat_scope.specs.declared.expr.Expr.{Expr}
use Rattle.cat_scope.specs.declared.defs.Assertion.{Assertion}
use Rattle.cat_scope.specs.Replies.{known, with_front}
use Rattle.cat_scope.specs.Runs.{Run, stops}
use Rattle.cat_scope.specs.Names.{AllHave, is_called, has_none}
use Rattle.cat_scope.specs.Names.{is_plain}
use Rattle.cat_scope.specs.Orders.{called_by_kind, called_by_items}
use Rattle.cat_scope.specs.WellFormed.{is_internal}
use Rattle.cat_scope.specs.Calls.{Items}
use Rattle.cat_scope.specs.Running.{entry_at, with_entry, no_values, asserted, outputs_of}
use Rattle.cat_sound.specs.Endings.{Allowed, EndsIn, ResultsIn, IsOf, AreOf, types_of, AreOutputsOf}
use Rattle.cat_sound.proofs.Results.{both, result_with_front, all_front, all_back}
use Rattle.cat_sound.proofs.Endings.{ends_then, ends_choose}
use Rattle.cat_sound.proofs.FormTypes.{same_some, not_true}
use Rattle.cat_sound.proofs.InputTypes.{Placed}

-- ---- entries
pub with_entry-same : (item : ℕ) (v : Option Value) (values : Items) → item < length values
    → slice_get (with_entry item v values) item ≡ Some v
with_entry-same item v [] below = absurd (omega arith)
with_entry-same zero v (w ∷ ws) below = refl
with_entry-same (suc item) v (w ∷ ws) below = with_entry-same item v ws (omega arith)

suc_other : (a b : ℕ) → nat_eq (suc a) (suc b) ≡ false → nat_eq a b ≡ false
suc_other a b h = grind (arith, nat_tests)

pub with_entry-other : (item k : ℕ) (v : Option Value) (values : Items) → nat_eq item k ≡ false
    → slice_get (with_entry item v values) k ≡ slice_get values k
with_entry-other item k v [] other = refl
with_entry-other zero zero v (w ∷ ws) other = absurd (true≢false other)
with_entry-other zero (suc k) v (w ∷ ws) other = refl
with_entry-other (suc item) zero v (w ∷ ws) other = refl
with_entry-other (suc item) (suc k) v (w ∷ ws) other = with_entry-other item k v ws (suc_other item k other)

pub with_entry-length : (item : ℕ) (v : Option Value) (values : Items)
    → length (with_entry item v values) ≡ length values
with_entry-length item v [] = refl
with_entry-length zero v (w ∷ ws) = refl
with_entry-length (suc item) v (w ∷ ws) = ap suc (with_entry-length item v ws)

pub no_values-length : (items : List ItemDecl) → length (no_values items) ≡ length items
no_values-length [] = refl
no_values-length (item ∷ items) = ap suc (no_values-length items)

pub found : {A : Type 0} (xs : List A) (k : ℕ) → k < length xs → (x : A) × (slice_get xs k ≡ Some x)
found [] k below = absurd (omega arith)
found (x ∷ xs) zero below = (x, refl)
found (x ∷ xs) (suc k) below = found xs k (omega arith)

pub entry_given : (ds : Decls) (items : List ItemDecl) (input : Items) (k : ℕ) (decl : ItemDecl)
    → IsTrue (are_given_for ds items input) → slice_get items k ≡ Some decl
    → IsTrue (is_given_for ds decl (entry_at k input))
entry_given ds [] input k decl h is = absurd (cc)
entry_given ds (item ∷ items) [] k decl h is = not_true h
entry_given ds (item ∷ items) (given ∷ input) zero decl h is =
    subst (λ (i : ItemDecl). IsTrue (is_given_for ds i given)) (same_some item decl is) (both _ _ h).0
entry_given ds (item ∷ items) (given ∷ input) (suc k) decl h is = entry_given ds items input k decl (both _ _ h).1 is

pub callee_at : (P : ℕ → Type 0) (items : List ItemDecl) (k : ℕ) (decl : ItemDecl) (s : ℕ)
    → AllHave P (called_by_items items) → slice_get items k ≡ Some decl → decl.kind ≡ kind.Called s → P s
callee_at P [] k decl s h is e = absurd (cc)
callee_at P (item ∷ items) zero decl s h is e =
    (subst (λ ks. AllHave P ks) (ap called_by_kind (ap (λ (i : ItemDecl). i.kind) (same_some item decl is) ∙ e))
    (all_front P (called_by_kind item.kind) (called_by_items items) h)).0
callee_at P (item ∷ items) (suc k) decl s h is e =
    callee_at P items k decl s (all_back P (called_by_kind item.kind) (called_by_items items) h) is e

pub free_of_may : (k : Kind) → IsTrue (may_be_given k) → is_called k ≡ false
free_of_may kind.Input h = refl
free_of_may kind.InputOutput h = refl
free_of_may kind.Context h = refl
free_of_may kind.ContextOutput h = refl
free_of_may kind.Internal h = refl
free_of_may kind.Output h = refl
free_of_may (kind.Called s) h = not_true h

output_free : (k : Kind) → IsTrue (is_output k) → (is_called k ≡ false) × (is_internal k ≡ false)
output_free kind.Input h = not_true h
output_free kind.InputOutput h = (refl, refl)
output_free kind.Context h = not_true h
output_free kind.ContextOutput h = (refl, refl)
output_free kind.Internal h = not_true h
output_free kind.Output h = (refl, refl)
output_free (kind.Called s) h = not_true h

-- an output is a variable that is no function
pub output_plain : (item : ItemDecl) → Placed item → IsTrue (is_output item.kind) → IsTrue (is_plain item)
output_plain item placed is =
    let free = output_free item.kind is in
    let none : IsTrue (has_none item.params) = or_false (has_none item.params) (is_internal item.kind) free.1
    (both (has_none item.params || is_internal item.kind) _ placed).0 in
    ap (λ b. not b && has_none item.params) free.0 ∙ none
  where
    or_false : (a b : Bool) → b ≡ false → IsTrue (a || b) → IsTrue a
    or_false true b e h = refl
    or_false false b e h = absurd (true≢false (sym h ∙ e))

-- ---- assertions and outputs

pub asserted-ends : (allowed : Allowed)
    → {A : Type 0} (P : A → Type 0) (ds : Decls) (value : Expr → Run Value) (assertions : List Assertion) (last : Run A)
    → AllHave (λ a. EndsIn allowed (IsOf ds flat_ty.Boolean) (value a.condition)) assertions → EndsIn allowed P last
    → EndsIn allowed P (asserted value assertions last)
asserted-ends allowed P ds value [] last h end = end
asserted-ends allowed P ds value (a ∷ rest) last h end =
    ends_then allowed (IsOf ds flat_ty.Boolean) P (value a.condition) _ h.0
    (λ t ht. ends_choose allowed P ds t (asserted value rest last) (stops (Fault AssertionFailed a.keyword)) ht
    (asserted-ends allowed P ds value rest last h.1 end) (tt, tt))

-- what the values have of the outputs
pub record OutputAt (ds : Decls) (values : Items) (k : ℕ) (item : ItemDecl) : Type 0 where
  pub value : Option Value
  pub there : slice_get values k ≡ Some value
  pub typed : IsTrue (is_output item.kind) → ResultsIn (IsOf ds item.ty) (known value)

pub outputs-end : (ds : Decls) (items : List ItemDecl) (values : Items)
    → ((k : ℕ) (item : ItemDecl) → slice_get items k ≡ Some item → OutputAt ds values k item)
    → ResultsIn (AreOutputsOf ds items) (outputs_of items values)
outputs-end ds [] values each = tt
outputs-end ds (item ∷ items) [] each = absurd (cc ((each 0 item refl).there))
outputs-end ds (item ∷ items) (v ∷ values) each =
    by (is_output item.kind) refl
    (outputs-end ds items values
    (λ k i is. let at = each (suc k) i is in record { value = at.value; there = at.there; typed = at.typed }))
  where
    first : IsTrue (is_output item.kind) → ResultsIn (IsOf ds item.ty) (known v)
    first is =
        let at = each 0 item refl in subst (λ o. ResultsIn (IsOf ds item.ty) (known o))
        (sym (same_some v at.value at.there)) (at.typed is)

    by : (b : Bool) → is_output item.kind ≡ b → ResultsIn (AreOutputsOf ds items) (outputs_of items values)
        → ResultsIn (AreOf ds (types_of (if b then item ∷ outputs_in items else outputs_in items)))
        (if b then with_front (known v) (outputs_of items values) else outputs_of items values)
    by true e rest =
        result_with_front (IsOf ds item.ty) (AreOutputsOf ds items) (AreOf ds (item.ty ∷ types_of (outputs_in items)))
        (known v) (outputs_of items values) (first e) rest (λ w ws hw are. (hw, are))
    by false e rest = rest
