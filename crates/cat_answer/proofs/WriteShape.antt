-- What is written holds no float, and nests no deeper than the value is high.
use Rattle.std.proofs.Common.{◌≡◌, ℕ, Bool, true, false, ◌||◌, true≢false, List, [], ◌∷◌, codes, Option, None, Some}
use Rattle.std.proofs.Common.{Ordering, Less, Equal, Greater, refl, ℤ, pos, negsuc}
use Rattle.std.specs.Prelude.{slice_get}
use Rattle.std.specs.Ordering.{nat_cmp, match_ordering}
use Rattle.std.specs.Cmp.Lexicographic.{slice_cmp}
use Rattle.serde_json.specs.Data.{Data, Members, no_members, member, put}
use Rattle.serde_json.specs.Written.{has_float, items_have_float, members_have_float}
use Rattle.cat_value.specs.declared.ty.Ty.{Ty}
use Rattle.cat_value.specs.declared.ty.Ty.TheOpen.{Ty-F}
use Rattle.cat_value.specs.declared.ty.Ty.TheViews.{out-Ty}
use Rattle.cat_value.specs.declared.value.Value.{Value}
use Rattle.cat_value.specs.declared.declaration.Field.{Field}
use Rattle.cat_value.specs.declared.declaration.Case.{Case}
use Rattle.cat_value.specs.declared.declaration.Enumeration.{Enumeration}
use Rattle.cat_value.specs.declared.declaration.ItemDecl.{ItemDecl}
use Rattle.cat_value.specs.declared.decls.Decls.{Decls}
use Rattle.cat_value.specs.Entries.{fields_of}
use Rattle.cat_value.proofs.Exported.{Each, Within, value_induction}
use Rattle.cat_answer.specs.Writes.{data_of, integer_data, input_data, inputs_data}
use Rattle.cat_answer.specs.WrittenParts.{items_data, members_data, list_written, fields_written, structure_written}
use Rattle.cat_answer.specs.WrittenParts.{content_written, case_written, numbered_written, enumeration_written}
use Rattle.cat_answer.specs.Answer.{outputs_data, outputs_object}
use Rattle.cat_value.specs.Inputs.{outputs_in}
use Rattle.cat_answer.proofs.WriteEquations.{data_of_Boolean, data_of_Integer, data_of_Decimal, data_of_Money}
use Rattle.cat_answer.proofs.WriteEquations.{data_of_Date, data_of_Duration, data_of_List, data_of_Structure}
use Rattle.cat_answer.proofs.WriteEquations.{data_of_Case}

no_float-integer : (z : ℤ) → has_float (integer_data z) ≡ false
no_float-integer (pos n) = refl
no_float-integer (negsuc n) = refl

both_false : (a b : Bool) → (a || b) ≡ false → (a ≡ false) × (b ≡ false)
both_false false b e = (refl, e)
both_false true b e = absurd (true≢false e)

no_float-put : (key : List ℕ) (d : Data) (ms : Members) → has_float d ≡ false → members_have_float ms ≡ false
    → members_have_float (put key d ms) ≡ false
no_float-put key d no_members none rest = rw none refl
no_float-put key d (member k e ms) none rest =
    by (slice_cmp nat_cmp key k) (both_false (has_float e) (members_have_float ms) rest) (no_float-put key d ms none)
  where
    by : (o : Ordering) → (has_float e ≡ false) × (members_have_float ms ≡ false)
        → (members_have_float ms ≡ false → members_have_float (put key d ms) ≡ false)
        → members_have_float
        (match_ordering o (member key d (member k e ms)) (member k d ms) (member k e (put key d ms))) ≡ false
    by Less parts more = rw (none, parts.0, parts.1) refl
    by Equal parts more = rw (none, parts.1) refl
    by Greater parts more = rw (parts.0, more parts.1) refl

-- no type makes a float of a value
abbrev pub NoFloat : Decls → Value → Type 0
NoFloat ds v = (t : Ty) → has_float (data_of ds v t) ≡ false

no_float-items : (ds : Decls) (vs : List Value) (t : Ty) → Each (NoFloat ds) vs
    → items_have_float (items_data ds vs t) ≡ false
no_float-items ds [] t h = refl
no_float-items ds (v ∷ vs) t h = rw (h.0 t, no_float-items ds vs t h.1) refl

no_float-members : (ds : Decls) (fs : List Field) (vs : List Value) (others : Members) → Each (NoFloat ds) vs
    → members_have_float others ≡ false → members_have_float (members_data ds fs vs others) ≡ false
no_float-members ds [] vs others h none = none
no_float-members ds (f ∷ fs) [] others h none = none
no_float-members ds (f ∷ fs) (v ∷ vs) others h none =
    no_float-members ds fs vs (put f.name (data_of ds v f.ty) others) h.1
    (no_float-put f.name (data_of ds v f.ty) others (h.0 f.ty) none)

no_float-list : (ds : Decls) (vs : List Value) (y : Ty-F Ty) → Each (NoFloat ds) vs
    → has_float (list_written ds vs y) ≡ false
no_float-list ds vs (Ty-F.List t) h = no_float-items ds vs t h
no_float-list ds vs _ h = refl

no_float-fields : (ds : Decls) (vs : List Value) (fs : Option (List Field)) → Each (NoFloat ds) vs
    → has_float (fields_written ds vs fs) ≡ false
no_float-fields ds vs None h = refl
no_float-fields ds vs (Some fs) h = no_float-members ds fs vs no_members h refl

no_float-structure : (ds : Decls) (vs : List Value) (y : Ty-F Ty) → Each (NoFloat ds) vs
    → has_float (structure_written ds vs y) ≡ false
no_float-structure ds vs (Ty-F.Structure n) h = no_float-fields ds vs (fields_of ds n) h
no_float-structure ds vs _ h = refl

no_float-content : (ds : Decls) (name : List ℕ) (t : Option Ty) (content : Option Value) → Within (NoFloat ds) content
    → has_float (content_written ds name t content) ≡ false
no_float-content ds name None None h = refl
no_float-content ds name None (Some v) h = refl
no_float-content ds name (Some t) None h = refl
no_float-content ds name (Some t) (Some v) h = rw (h t) refl

no_float-case : (ds : Decls) (content : Option Value) (c : Option Case) → Within (NoFloat ds) content
    → has_float (case_written ds content c) ≡ false
no_float-case ds content None h = refl
no_float-case ds content (Some c) h = no_float-content ds c.name c.content content h

no_float-numbered : (ds : Decls) (k : ℕ) (content : Option Value) (e : Option Enumeration) → Within (NoFloat ds) content
    → has_float (numbered_written ds k content e) ≡ false
no_float-numbered ds k content None h = refl
no_float-numbered ds k content (Some e) h = no_float-case ds content (slice_get e.cases k) h

no_float-enumeration : (ds : Decls) (k : ℕ) (content : Option Value) (y : Ty-F Ty) → Within (NoFloat ds) content
    → has_float (enumeration_written ds k content y) ≡ false
no_float-enumeration ds k content (Ty-F.Enumeration n) h =
    no_float-numbered ds k content (slice_get ds.enumerations n) h
no_float-enumeration ds k content _ h = refl

pub no_float : (ds : Decls) (v : Value) (t : Ty) → has_float (data_of ds v t) ≡ false
no_float ds = value_induction (NoFloat ds)
    (λ b t. rw (data_of_Boolean ds b t) refl)
    (λ n t. rw (data_of_Integer ds n t) (no_float-integer n))
    (λ f t. rw (data_of_Decimal ds f t) refl)
    (λ n t. rw (data_of_Money ds n t) refl)
    (λ day t. rw (data_of_Date ds day t) refl)
    (λ span t. rw (data_of_Duration ds span t)
    (no_float-put (codes "months") (integer_data span.months) (put (codes "days") (integer_data span.days) no_members)
    (no_float-integer span.months)
    (no_float-put (codes "days") (integer_data span.days) no_members (no_float-integer span.days) refl)))
    (λ vs h t. rw (data_of_List ds vs t) (no_float-list ds vs (out-Ty t) h))
    (λ vs h t. rw (data_of_Structure ds vs t) (no_float-structure ds vs (out-Ty t) h))
    (λ k content h t. rw (data_of_Case ds k content t) (no_float-enumeration ds k content (out-Ty t) h))

no_float-inputs : (ds : Decls) (is : List ItemDecl) (input : List (Option Value)) (others : Members)
    → members_have_float others ≡ false → members_have_float (inputs_data ds is input others) ≡ false
no_float-inputs ds [] input others none = none
no_float-inputs ds (i ∷ is) [] others none = none
no_float-inputs ds (i ∷ is) (None ∷ input) others none = no_float-inputs ds is input others none
no_float-inputs ds (i ∷ is) (Some v ∷ input) others none =
    no_float-inputs ds is input (put i.name (data_of ds v i.ty) others)
    (no_float-put i.name (data_of ds v i.ty) others (no_float ds v i.ty) none)

pub no_float-input : (ds : Decls) (is : List ItemDecl) (input : List (Option Value))
    → has_float (input_data ds is input) ≡ false
no_float-input ds is input = no_float-inputs ds is input no_members refl

no_float-outputs : (ds : Decls) (is : List ItemDecl) (vs : List Value) (others : Members)
    → members_have_float others ≡ false → members_have_float (outputs_data ds is vs others) ≡ false
no_float-outputs ds [] vs others none = none
no_float-outputs ds (i ∷ is) [] others none = none
no_float-outputs ds (i ∷ is) (v ∷ vs) others none =
    no_float-outputs ds is vs (put i.name (data_of ds v i.ty) others)
    (no_float-put i.name (data_of ds v i.ty) others (no_float ds v i.ty) none)

pub no_float-object : (ds : Decls) (is : List ItemDecl) (vs : List Value) → has_float (outputs_object ds is vs) ≡ false
no_float-object ds is vs = no_float-outputs ds (outputs_in is) vs no_members refl

pub ruleset shape = (no_float, no_float-input, no_float-object)
