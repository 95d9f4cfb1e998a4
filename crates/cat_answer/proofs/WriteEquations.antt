-- The JSON of each kind of values, and of objects that grow.
use Rattle.std.proofs.Common.{◌≡◌, ℕ, ◌+◌, ◌<◌, ◌≤◌, ℤ, Bool, List, [], ◌∷◌, map, take, drop, drop-cons, get_or, length}
use Rattle.std.proofs.Common.{add-one, zero, suc, Option, None, Some, refl, ap, ◌∙◌, String, Global, string_bytes}
use Rattle.std.proofs.Common.{string_cmp}
use Rattle.std.proofs.lemmas.List.{drop_all, take_all}
use Rattle.std.specs.Option.{option_map}
use Rattle.std.specs.BTreeMap.{insert_entry}
use Rattle.serde_json.specs.Data.{Data, boolean, string, object, Members, no_members, put}
use Rattle.serde_json.specs.View.{view, items_of, items_view, members_view}
use Rattle.serde_json.specs.declared.value.Value.{Value as Json}
use Rattle.serde_json.proofs.Views.{Entry, members_view-insert_entry}
use Rattle.cat_num.specs.Frac.{Fraction}
use Rattle.cat_num.specs.Text.{decimal_bytes, money_bytes}
use Rattle.cat_date.specs.Span.{SpanOf}
use Rattle.cat_date.specs.Text.{day_text}
use Rattle.cat_value.specs.declared.ty.Ty.{Ty}
use Rattle.cat_value.specs.declared.ty.Ty.TheOpen.{Ty-F}
use Rattle.cat_value.specs.declared.ty.Ty.TheViews.{out-Ty}
use Rattle.cat_value.specs.declared.value.Value.{Value}
use Rattle.cat_value.specs.declared.value.Value.TheOpen.{Value-F}
use Rattle.cat_value.specs.declared.value.Value.TheFolds.{fold_out-Value, map-Value}
use Rattle.cat_value.specs.declared.value.Value.TheVariants as flat
use Rattle.cat_value.specs.declared.value.Value.TheViews as value
use Rattle.cat_value.specs.declared.declaration.Field.{Field}
use Rattle.cat_value.specs.declared.declaration.Case.{Case}
use Rattle.cat_value.specs.declared.declaration.Enumeration.{Enumeration}
use Rattle.cat_value.specs.declared.decls.Decls.{Decls}
use Rattle.cat_value.specs.Entries.{fields_of}
use Rattle.std.specs.Prelude.{slice_get}
use Rattle.cat_answer.specs.Writes.{Writer, data_of, value_written, written_level, integer_data, span_data, list_data}
use Rattle.cat_answer.specs.Writes.{elements_data, fields_data, fields_object, structure_data, content_data}
use Rattle.cat_answer.specs.Writes.{named_case_data, numbered_case_data, case_data}
use Rattle.cat_answer.specs.WrittenParts.{items_data, members_data, list_written, fields_written, structure_written}
use Rattle.cat_answer.specs.WrittenParts.{content_written, case_written, numbered_written, enumeration_written}

-- one level of the JSON of a value
abbrev pub level_of : Decls → Value-F Value → Ty-F Ty → Data
level_of ds v t = written_level ds (map-Value Value Writer (data_of ds) v) t

pub data_of-levels : (ds : Decls) (v : Value) (t : Ty) → data_of ds v t ≡ level_of ds (value.out-Value v) (out-Ty t)
unfolding data_of
data_of-levels ds v t = ap (λ (write : Writer). write t) (fold_out-Value Writer (value_written ds) v)

pub data_of_Boolean : (ds : Decls) (b : Bool) (t : Ty) → data_of ds (flat.Boolean b) t ≡ boolean b
data_of_Boolean ds b t = rw (data_of-levels ds (flat.Boolean b) t, value.outs-Boolean b) refl

pub data_of_Integer : (ds : Decls) (n : ℤ) (t : Ty) → data_of ds (flat.Integer n) t ≡ integer_data n
data_of_Integer ds n t = rw (data_of-levels ds (flat.Integer n) t, value.outs-Integer n) refl

pub data_of_Decimal : (ds : Decls) (f : Fraction) (t : Ty) → data_of ds (flat.Decimal f) t ≡ string (decimal_bytes f)
data_of_Decimal ds f t = rw (data_of-levels ds (flat.Decimal f) t, value.outs-Decimal f) refl

pub data_of_Money : (ds : Decls) (n : ℤ) (t : Ty) → data_of ds (flat.Money n) t ≡ string (money_bytes n)
data_of_Money ds n t = rw (data_of-levels ds (flat.Money n) t, value.outs-Money n) refl

pub data_of_Date : (ds : Decls) (day : ℤ) (t : Ty) → data_of ds (flat.Date day) t ≡ string (day_text day)
data_of_Date ds day t = rw (data_of-levels ds (flat.Date day) t, value.outs-Date day) refl

pub data_of_Duration : (ds : Decls) (span : SpanOf) (t : Ty) → data_of ds (flat.Duration span) t ≡ span_data span
data_of_Duration ds span t = rw (data_of-levels ds (flat.Duration span) t, value.outs-Duration span) refl

elements_are : (ds : Decls) (vs : List Value) (t : Ty) → elements_data (map (data_of ds) vs) t ≡ items_data ds vs t
elements_are ds [] t = refl
elements_are ds (v ∷ vs) t = rw (elements_are ds vs t) refl

list_is : (ds : Decls) (vs : List Value) (t : Ty-F Ty) → list_data (map (data_of ds) vs) t ≡ list_written ds vs t
list_is ds vs (Ty-F.List t) = rw (elements_are ds vs t) refl
list_is ds vs _ = refl

fields_are : (ds : Decls) (fs : List Field) (vs : List Value) (others : Members)
    → fields_data fs (map (data_of ds) vs) others ≡ members_data ds fs vs others
fields_are ds [] vs others = refl
fields_are ds (f ∷ fs) [] others = refl
fields_are ds (f ∷ fs) (v ∷ vs) others = fields_are ds fs vs (put f.name (data_of ds v f.ty) others)

object_is : (ds : Decls) (vs : List Value) (fs : Option (List Field))
    → fields_object fs (map (data_of ds) vs) ≡ fields_written ds vs fs
object_is ds vs None = refl
object_is ds vs (Some fs) = ap object (fields_are ds fs vs no_members)

structure_is : (ds : Decls) (vs : List Value) (t : Ty-F Ty)
    → structure_data ds (map (data_of ds) vs) t ≡ structure_written ds vs t
structure_is ds vs (Ty-F.Structure n) = object_is ds vs (fields_of ds n)
structure_is ds vs _ = refl

content_is : (ds : Decls) (name : List ℕ) (t : Option Ty) (content : Option Value)
    → content_data name t (option_map (data_of ds) content) ≡ content_written ds name t content
content_is ds name None None = refl
content_is ds name None (Some v) = refl
content_is ds name (Some t) None = refl
content_is ds name (Some t) (Some v) = refl

named_is : (ds : Decls) (content : Option Value) (c : Option Case)
    → named_case_data c (option_map (data_of ds) content) ≡ case_written ds content c
named_is ds content None = refl
named_is ds content (Some c) = content_is ds c.name c.content content

numbered_is : (ds : Decls) (k : ℕ) (content : Option Value) (e : Option Enumeration)
    → numbered_case_data e k (option_map (data_of ds) content) ≡ numbered_written ds k content e
numbered_is ds k content None = refl
numbered_is ds k content (Some e) = named_is ds content (slice_get e.cases k)

case_is : (ds : Decls) (k : ℕ) (content : Option Value) (t : Ty-F Ty)
    → case_data ds k (option_map (data_of ds) content) t ≡ enumeration_written ds k content t
case_is ds k content (Ty-F.Enumeration n) = numbered_is ds k content (slice_get ds.enumerations n)
case_is ds k content _ = refl

level_Case : (ds : Decls) (k : ℕ) (content : Option Value) (t : Ty-F Ty)
    → level_of ds (Value-F.Case k content) t ≡ case_data ds k (option_map (data_of ds) content) t
level_Case ds k None t = refl
level_Case ds k (Some v) t = refl

pub data_of_List : (ds : Decls) (vs : List Value) (t : Ty)
    → data_of ds (value.List vs) t ≡ list_written ds vs (out-Ty t)
data_of_List ds vs t = rw (data_of-levels ds (value.List vs) t, value.outs-List vs) (list_is ds vs (out-Ty t))

pub data_of_Structure : (ds : Decls) (vs : List Value) (t : Ty)
    → data_of ds (value.Structure vs) t ≡ structure_written ds vs (out-Ty t)
data_of_Structure ds vs t =
    rw (data_of-levels ds (value.Structure vs) t, value.outs-Structure vs) (structure_is ds vs (out-Ty t))

pub data_of_Case : (ds : Decls) (k : ℕ) (content : Option Value) (t : Ty)
    → data_of ds (value.Case k content) t ≡ enumeration_written ds k content (out-Ty t)
data_of_Case ds k content t =
    rw (data_of-levels ds (value.Case k content) t, value.outs-Case k content)
    (level_Case ds k content (out-Ty t) ∙ case_is ds k content (out-Ty t))

pub ruleset writing = (
  data_of_Boolean,
  data_of_Integer,
  data_of_Decimal,
  data_of_Money,
  data_of_Date,
  data_of_Duration,
  data_of_List,
  data_of_Structure,
  data_of_Case,
)

-- the elements of an array
items_of-data : (ds : Decls) (vs : List Value) (t : Ty) → items_of (map (λ v. data_of ds v t) vs) ≡ items_data ds vs t
items_of-data ds [] t = refl
items_of-data ds (v ∷ vs) t = rw (items_of-data ds vs t) refl

pub elements-written : (ds : Decls) (items : List Json) (vs : List Value) (t : Ty) (n : ℕ)
    → map view items ≡ map (λ v. data_of ds v t) (take n vs) → length vs ≤ n → items_view items ≡ items_data ds vs t
elements-written ds items vs t n e h =
    ap items_of e ∙ ap (λ (ws : List Value). items_of (map (λ v. data_of ds v t) ws)) (take_all n vs h)
    ∙ items_of-data ds vs t

pub drop-get : {A : Type 0} (xs : List A) (n : ℕ) (x : A) → slice_get xs n ≡ Some x → drop n xs ≡ x ∷ drop (suc n) xs
drop-get [] n x e = absurd (cc)
drop-get (y ∷ ys) zero x e = let same : y ≡ x = cc in ap (λ z. z ∷ ys) same
drop-get (y ∷ ys) (suc n) x e = drop-get ys n x e

pub drop-past : {A : Type 0} (xs : List A) (n : ℕ) → slice_get xs n ≡ None → drop n xs ≡ []
drop-past [] zero e = refl
drop-past [] (suc n) e = refl
drop-past (y ∷ ys) zero e = absurd (cc)
drop-past (y ∷ ys) (suc n) e = drop-past ys n e

-- one member more
pub members_data-next : (ds : Decls) (entries new : List Entry) (fs : List Field) (vs : List Value) (n : ℕ) (f : Field)
    (v : Value) (key : String Global) (written : Json)
    → n < length vs → slice_get fs n ≡ Some f → v ≡ get_or vs n v
    → string_bytes key ≡ f.name → view written ≡ data_of ds v f.ty → new ≡ insert_entry string_cmp entries key written
    → members_data ds (drop (n + 1) fs) (drop (n + 1) vs) (members_view new) ≡ members_data ds (drop n fs) (drop n vs)
    (members_view entries)
members_data-next ds entries new fs vs n f v key written in_values is holds name seen inserted =
    rw (
      inserted,
      members_view-insert_entry entries key written,
      name,
      seen,
      drop-get fs n f is,
      drop-cons vs n v,
      ←
          holds,
      add-one,
    ) refl

-- no field is left
pub members_data-past : (ds : Decls) (fs : List Field) (vs : List Value) (n : ℕ) (others : Members)
    → slice_get fs n ≡ None → members_data ds (drop n fs) (drop n vs) others ≡ others
members_data-past ds fs vs n others e = rw (drop-past fs n e) refl

members_data-none : (ds : Decls) (fs : List Field) (others : Members) → members_data ds fs [] others ≡ others
members_data-none ds [] others = refl
members_data-none ds (f ∷ fs) others = refl

-- no value is left
pub members_data-end : (ds : Decls) (fs : List Field) (vs : List Value) (n : ℕ) (others : Members) → length vs ≤ n
    → members_data ds (drop n fs) (drop n vs) others ≡ others
members_data-end ds fs vs n others h = rw (drop_all n vs h) (members_data-none ds (drop n fs) others)
