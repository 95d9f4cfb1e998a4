-- Rows of values, what they are made into and read from, and the signatures of operators.
use Rattle.std.proofs.Common.{◌≡◌, ℕ, zero, suc, ◌&&◌, Bool, true, false, true≢false, List, [], ◌∷◌, length, replicate}
use Rattle.std.proofs.Common.{Option, Some, None, Ok, slice_get, is_none, inl, inr, refl, sym, ap, ◌∙◌, subst}
use Rattle.std.proofs.Common.{if◌then◌else◌}
use Rattle.cat_value.specs.declared.ty.Ty.{Ty}
use Rattle.cat_value.specs.declared.value.Value.{Value}
use Rattle.cat_value.specs.declared.declaration.ItemDecl.{ItemDecl}
use Rattle.cat_value.specs.declared.outcome.Target.{Target}
use Rattle.cat_value.specs.declared.decls.Decls.{Decls}
use Rattle.cat_scope.specs.Names.{IsOneOf}
use Rattle.cat_scope.specs.Judging.{Held, alone}
use Rattle.cat_scope.specs.Projections as read
use Rattle.cat_scope.specs.Replies.{on_one, known}
use Rattle.cat_scope.specs.Composed.{part}
use Rattle.cat_scope.specs.Running.{no_values}
use Rattle.cat_scope.specs.Signatures.{Signature}
use Rattle.cat_sound.specs.Endings.{Ended}
use Rattle.cat_sound.proofs.Exported.{anything}
use Rattle.cat_sound.proofs.Results.{both}
use Rattle.cat_code.specs.Forms.{Form, Forms, in_row, form_at, same_form}
use Rattle.cat_code.specs.Forms as forms
use Rattle.cat_code.specs.Wanted.{all_same, signed}
use Rattle.cat_code.proofs.FormLaws.{same_is}
use Rattle.cat_code_sound.proofs.ValueKinds.{IsOf, AreAll, AreFields, Holds, reads_fields, reads_case}
use Rattle.cat_code_sound.proofs.ValueKinds as kinds
use Rattle.cat_code_sound.proofs.Fitting.{OnTop, HasFew, CollectedFits, SlotsFit}

-- values one by one as the fields of a row
pub row_fields : (ds : Decls) (ts : List Form) (vs : List Value) → OnTop (IsOf ds) ts vs []
    → AreFields ds (in_row ts) vs
row_fields ds [] [] are = kinds.last_field
row_fields ds [] (v ∷ vs) are = absurd (cc are)
row_fields ds (t ∷ ts) [] are = absurd are
row_fields ds (t ∷ ts) (v ∷ vs) are = kinds.next_field are.0 (row_fields ds ts vs are.1)

-- values of types that are all the same
pub row_all : (ds : Decls) (t : Form) (ts : List Form) (vs : List Value) → all_same t ts ≡ true
    → OnTop (IsOf ds) ts vs []
    → AreAll ds t vs
row_all ds t [] [] same are = kinds.no_more
row_all ds t [] (v ∷ vs) same are = absurd (cc are)
row_all ds t (u ∷ ts) [] same are = absurd are
row_all ds t (u ∷ ts) (v ∷ vs) same are =
    let parts = both (same_form u t) (all_same t ts) same in
    kinds.one_more (subst (λ (f : Form). IsOf ds f v) (same_is u t parts.0) are.0) (row_all ds t ts vs parts.1 are.1)

-- a field of a row
pub field_typed : (ds : Decls) (ts : Forms) (vs : List Value) (k : ℕ) (t : Form) → AreFields ds ts vs
    → form_at ts k ≡ Some t
    → (v : Value) × (slice_get vs k ≡ Some v) × IsOf ds t v
field_typed ds forms.Last vs k t are is = absurd (cc is)
field_typed ds (forms.More u ts) [] k t are is = elim are [ ]
field_typed ds (forms.More u ts) (v ∷ vs) zero t (kinds.next_field first rest) is =
    let same : u ≡ t = cc is in (v, refl, subst (λ (f : Form). IsOf ds f v) same first)
field_typed ds (forms.More u ts) (v ∷ vs) (suc k) t (kinds.next_field first rest) is = field_typed ds ts vs k t rest is

pub part_typed : (ds : Decls) (ts : Forms) (v : Value) (k : ℕ) (t : Form) → IsOf ds (forms.Fields ts) v
    → form_at ts k ≡ Some t
    → (w : Value) × (part k v ≡ Ok w) × IsOf ds t w
part_typed ds ts v k t is there =
    let vs = reads_fields ds ts v is in
    let w = field_typed ds ts vs.0 k t vs.2 there in
    (w.0, ap (λ r. on_one r (λ (l : List Value). known (slice_get l k))) vs.1 ∙ ap known w.1, w.2)

-- a case that can be asked for
pub case_there : (ds : Decls) (n : ℕ) (v : Value) → IsOf ds (forms.OneOf n) v
    → (met : ℕ × Option Value) × (read.case_of v ≡ Ok met)
case_there ds n v is = by (reads_case ds n v is)
  where
    by : Holds ds n v → (met : ℕ × Option Value) × (read.case_of v ≡ Ok met)
    by (kinds.nothing k told none) = ((k, None), told)
    by (kinds.something k w t told some inner) = ((k, Some w), told)

pub none_so : {A : Type 0} (o : Option A) → is_none o ≡ true → o ≡ None
none_so None is = refl
none_so (Some a) is = absurd (true≢false (sym is))

-- what a loop has collected
pub collected_there : (ds : Decls) (o : Option Form) (m : Option (List Value)) (t : Form) → CollectedFits ds o m
    → o ≡ Some t
    → (vs : List Value) × (m ≡ Some vs) × AreAll ds t vs
collected_there ds None m t fits is = absurd (cc is)
collected_there ds (Some u) None t fits is = absurd fits
collected_there ds (Some u) (Some vs) t fits is =
    let same : u ≡ t = cc is in (vs, refl, subst (λ (f : Form). AreAll ds f vs) same fits)

pub collected_so : (ds : Decls) (o : Option Form) (t : Form) (vs : List Value) → o ≡ Some t → AreAll ds t vs
    → CollectedFits ds o (Some vs)
collected_so ds o t vs is all = subst (λ (x : Option Form). CollectedFits ds x (Some vs)) (sym is) all

-- nothing is passed yet
pub nothing_passed : (ds : Decls) (items : List ItemDecl)
    → SlotsFit ds items (replicate (length items) false) (no_values items)
nothing_passed ds [] = tt
nothing_passed ds (item ∷ items) = (refl, nothing_passed ds items)

-- where nothing conflicts there is one entry at most
pub alone_few : (target : Target) (held : List (Held Value)) → Ended anything (λ found. HasFew held) (alone target held)
alone_few target [] = tt
alone_few target (h ∷ []) = tt
alone_few target (h ∷ i ∷ hs) = refl

-- the signature that operands have
pub record Signed (form : Ty → Form) (rows : List Signature) (t u : Form) (r : Ty) : Type 0 where
  pub row : Signature
  pub among : IsOneOf row rows
  pub left : t ≡ form row.left
  pub right : u ≡ form row.right
  pub result : row.result ≡ r

pub signed_there : (form : Ty → Form) (rows : List Signature) (t u : Form) (r : Ty) → signed form rows t u ≡ Some r
    → Signed form rows t u r
signed_there form [] t u r is = absurd (cc is)
signed_there form (x ∷ rows) t u r is =
    by (same_form t (form x.left) && same_form u (form x.right)) refl is (signed_there form rows t u r)
  where
    by : (b : Bool) → (same_form t (form x.left) && same_form u (form x.right)) ≡ b
        → (if b then Some x.result else signed form rows t u) ≡ Some r
        → (signed form rows t u ≡ Some r → Signed form rows t u r) → Signed form (x ∷ rows) t u r
    by true e g later =
        let parts = both (same_form t (form x.left)) (same_form u (form x.right)) e in
        record {
          row = x;
          among = inl refl;
          left = same_is t (form x.left) parts.0;
          right = same_is u (form x.right) parts.1;
          result = cc g;
        }
    by false e g later =
        let rest = later g in
        record { row = rest.row; among = inr rest.among; left = rest.left; right = rest.right; result = rest.result }
