-- What is written of a value of a type is read as that value, where names are distinct.
use Rattle.std.proofs.Common.{◌≡◌, ℕ, suc, ℤ, pos, negsuc, Bool, true, false, true≢false, IsTrue, List, []}
use Rattle.std.proofs.Common.{◌∷◌}
use Rattle.std.proofs.Common.{length, Option, Some, None, Ok, codes, nat_le, slice_get}
use Rattle.std.proofs.Common.{bytes_eq, refl, sym, ap, subst, ◌∙◌, arith}
use Rattle.std.specs.Option.{option_map}
use Rattle.serde_json.specs.Data.{boolean, string, array, object, Members, no_members, member, put}
use Rattle.serde_json.specs.Find.{get_member}
use Rattle.serde_json.proofs.Views.{get_member-put, get_member-put_other}
use Rattle.cat_num.specs.Whole.{fits}
use Rattle.cat_num.specs.Frac.{Fraction}
use Rattle.cat_date.specs.Calendar.{IsDay}
use Rattle.cat_date.specs.Span.{SpanOf, is_span}
use Rattle.cat_date.specs.Text.{form_of, day_text, day_of_text}
use Rattle.cat_value.specs.declared.ty.Ty.{Ty}
use Rattle.cat_value.specs.declared.ty.Ty.TheOpen.{Ty-F}
use Rattle.cat_value.specs.declared.ty.Ty.TheViews.{out-Ty}
use Rattle.cat_value.specs.declared.value.Value.{Value}
use Rattle.cat_value.specs.declared.value.Value.TheOpen.{Value-F}
use Rattle.cat_value.specs.declared.value.Value.TheVariants as flat
use Rattle.cat_value.specs.declared.value.Value.TheViews as value
use Rattle.cat_value.specs.declared.declaration.Field.{Field}
use Rattle.cat_value.specs.declared.declaration.Structure.{Structure}
use Rattle.cat_value.specs.declared.declaration.Case.{Case}
use Rattle.cat_value.specs.declared.declaration.Enumeration.{Enumeration}
use Rattle.cat_value.specs.declared.decls.Decls.{Decls}
use Rattle.cat_value.specs.Entries.{some_passes, fields_in, content_in, case_in}
use Rattle.cat_value.specs.Flat.{integer_typed, decimal_typed, money_typed, date_typed, duration_typed}
use Rattle.cat_value.specs.Declarations.{is_boolean}
use Rattle.cat_value.specs.Typing.{has_type, most_elements, all_have_type, elements_typed, fields_have_types}
use Rattle.cat_value.specs.Typing.{content_has_type, case_typed}
use Rattle.cat_value.proofs.Exported.{Each, Within, value_induction, has_type-levels, tested, tested_Case, list_is}
use Rattle.cat_value.proofs.Exported.{structure_is, case_is, has_type_Boolean, has_type_Integer, has_type_Decimal}
use Rattle.cat_value.proofs.Exported.{has_type_Money, has_type_Date, has_type_Duration, list_all_at}
use Rattle.cat_json.specs.Paths.{made_of}
use Rattle.cat_json.specs.WholeNumbers.{integer_of, whole_in}
use Rattle.cat_json.specs.Scalars.{text_day, existing}
use Rattle.cat_json.specs.Spans.{span_in}
use Rattle.cat_json.specs.Keys.{is_among, unknown_key, field_names}
use Rattle.cat_json.specs.Names.{are_distinct, fields_are_distinct, cases_are_distinct, names_are_distinct}
use Rattle.cat_json.specs.Reads.{read_as, elements_in, list_in, member_in, field_values, structure_in}
use Rattle.cat_json.specs.Reads.{case_named, elements_of, members_of}
use Rattle.cat_json.proofs.Exported.{at_level, members_of-get}
use Rattle.cat_answer.specs.Writes.{data_of, integer_data, span_data}
use Rattle.cat_answer.specs.WrittenParts.{items_data, members_data, list_written, fields_written, structure_written}
use Rattle.cat_answer.specs.WrittenParts.{content_written, case_written, numbered_written, enumeration_written}
use Rattle.cat_answer.proofs.WriteEquations.{data_of_Boolean, data_of_Integer, data_of_Decimal, data_of_Money}
use Rattle.cat_answer.proofs.WriteEquations.{data_of_Date, data_of_Duration, data_of_List, data_of_Structure}
use Rattle.cat_answer.proofs.WriteEquations.{data_of_Case}
use Rattle.cat_json.proofs.Exported.{text_fraction-decimal_bytes, text_cents-money_bytes}
use Rattle.cat_answer.proofs.ObjectsBack.{apart, not_among, distinct-first, AreKnown, among_themselves}
use Rattle.cat_answer.proofs.ObjectsBack.{unknown_key-put, case_named-first}

-- what is written of a value, for each type that has it, is read as the value
abbrev pub IsReadBack : Decls → Value → Type 0
IsReadBack ds v = (t : Ty) → IsTrue (has_type ds v t) → read_as ds (data_of ds v t) t ≡ Ok v

-- that the texts of days are read as these days
abbrev pub DaysAreRead : Type 0
DaysAreRead = (n : ℤ) → IsDay n → day_of_text (day_text n) ≡ Ok n

boolean_back : (ds : Decls) (b : Bool) → IsReadBack ds (flat.Boolean b)
boolean_back ds b t h = by (out-Ty t) refl (rw (has_type_Boolean ds b t) at h)
  where
    by : (y : Ty-F Ty) → out-Ty t ≡ y → IsTrue (is_boolean y)
        → read_as ds (data_of ds (flat.Boolean b) t) t ≡ Ok (flat.Boolean b)
    by Ty-F.Boolean q g =
        ap (λ d. read_as ds d t) (data_of_Boolean ds b t) ∙ at_level ds (boolean b) t Ty-F.Boolean q
    by _ q g = absurd (true≢false (sym g))

whole_back : (n : ℤ) → IsTrue (fits n) → whole_in (integer_of (integer_data n)) ≡ Ok n
whole_back (pos n) h = rw h refl
whole_back (negsuc n) h = rw h refl

integer_back : (ds : Decls) (n : ℤ) → IsReadBack ds (flat.Integer n)
integer_back ds n t h = by (out-Ty t) refl (rw (has_type_Integer ds n t) at h)
  where
    by : (y : Ty-F Ty) → out-Ty t ≡ y → IsTrue (integer_typed n y)
        → read_as ds (data_of ds (flat.Integer n) t) t ≡ Ok (flat.Integer n)
    by Ty-F.Integer q g =
        ap (λ d. read_as ds d t) (data_of_Integer ds n t) ∙ at_level ds (integer_data n) t Ty-F.Integer q
        ∙ ap (made_of flat.Integer) (whole_back n g)
    by _ q g = absurd (true≢false (sym g))

decimal_back : (ds : Decls) (f : Fraction) → IsReadBack ds (flat.Decimal f)
decimal_back ds f t h = by (out-Ty t) refl (rw (has_type_Decimal ds f t) at h)
  where
    by : (y : Ty-F Ty) → out-Ty t ≡ y → IsTrue (decimal_typed f y)
        → read_as ds (data_of ds (flat.Decimal f) t) t ≡ Ok (flat.Decimal f)
    by Ty-F.Decimal q g =
        ap (λ d. read_as ds d t) (data_of_Decimal ds f t) ∙ at_level ds (string _) t Ty-F.Decimal q
        ∙ ap (made_of flat.Decimal) (text_fraction-decimal_bytes f g)
    by _ q g = absurd (true≢false (sym g))

money_back : (ds : Decls) (n : ℤ) → IsReadBack ds (flat.Money n)
money_back ds n t h = by (out-Ty t) refl (rw (has_type_Money ds n t) at h)
  where
    by : (y : Ty-F Ty) → out-Ty t ≡ y → IsTrue (money_typed n y)
        → read_as ds (data_of ds (flat.Money n) t) t ≡ Ok (flat.Money n)
    by Ty-F.Money q g =
        ap (λ d. read_as ds d t) (data_of_Money ds n t) ∙ at_level ds (string _) t Ty-F.Money q
        ∙ ap (made_of flat.Money) (text_cents-money_bytes n g)
    by _ q g = absurd (true≢false (sym g))

-- a text that names a day has a day's form
text_day-named : (text : List ℕ) (n : ℤ) → day_of_text text ≡ Ok n → text_day text ≡ Ok n
unfolding text_day day_of_text
text_day-named text n e = by (bytes_eq (form_of text) (codes "0000-00-00")) refl
  where
    by : (b : Bool) → bytes_eq (form_of text) (codes "0000-00-00") ≡ b → text_day text ≡ Ok n
    by true is = let named = rw is at e in rw is (ap existing named)
    by false is = let none = rw is at e in absurd (cc)

date_back : DaysAreRead → (ds : Decls) (day : ℤ) → IsReadBack ds (flat.Date day)
date_back days ds day t h = by (out-Ty t) refl (rw (has_type_Date ds day t) at h)
  where
    by : (y : Ty-F Ty) → out-Ty t ≡ y → IsTrue (date_typed day y)
        → read_as ds (data_of ds (flat.Date day) t) t ≡ Ok (flat.Date day)
    by Ty-F.Date q g =
        ap (λ d. read_as ds d t) (data_of_Date ds day t) ∙ at_level ds (string _) t Ty-F.Date q
        ∙ ap (made_of flat.Date) (text_day-named (day_text day) day (days day g))
    by _ q g = absurd (true≢false (sym g))

span_back : (span : SpanOf) → IsTrue (is_span span) → span_in (span_data span) ≡ Ok span
span_back span h = rw (whole_back span.days (grind arith), whole_back span.months (grind arith)) refl

duration_back : (ds : Decls) (span : SpanOf) → IsReadBack ds (flat.Duration span)
duration_back ds span t h = by (out-Ty t) refl (rw (has_type_Duration ds span t) at h)
  where
    by : (y : Ty-F Ty) → out-Ty t ≡ y → IsTrue (duration_typed span y)
        → read_as ds (data_of ds (flat.Duration span) t) t ≡ Ok (flat.Duration span)
    by Ty-F.Duration q g =
        ap (λ d. read_as ds d t) (data_of_Duration ds span t) ∙ at_level ds (span_data span) t Ty-F.Duration q
        ∙ ap (made_of flat.Duration) (span_back span g)
    by _ q g = absurd (true≢false (sym g))

elements_back : (ds : Decls) (e : Ty) (k : ℕ) (vs : List Value) → Each (IsReadBack ds) vs
    → IsTrue (all_have_type ds vs e) → elements_in k (elements_of ds (items_data ds vs e)) e ≡ Ok vs
elements_back ds e k [] back h = refl
elements_back ds e k (v ∷ vs) back h =
    rw (back.0 e (grind arith), elements_back ds e (suc k) vs back.1 (grind arith)) refl

elements_of-count : (ds : Decls) (e : Ty) (vs : List Value) → length (elements_of ds (items_data ds vs e)) ≡ length vs
elements_of-count ds e [] = refl
elements_of-count ds e (v ∷ vs) = ap suc (elements_of-count ds e vs)

list_back : (ds : Decls) (vs : List Value) → Each (IsReadBack ds) vs → IsReadBack ds (value.List vs)
list_back ds vs back t h = by (out-Ty t) refl (rw (has_type-levels ds (value.List vs) t, value.outs-List vs) at h)
  where
    list_read : (e : Ty) → IsTrue (elements_typed ds vs e)
        → list_in (Some (items_data ds vs e)) (elements_of ds (items_data ds vs e)) e ≡ Ok (value.List vs)
    list_read e g =
        let few : nat_le (length vs) most_elements ≡ true = grind arith in
        rw (elements_of-count ds e vs, few, elements_back ds e 0 vs back (grind arith)) refl

    by : (y : Ty-F Ty) → out-Ty t ≡ y → IsTrue (tested ds (Value-F.List vs) y)
        → read_as ds (data_of ds (value.List vs) t) t ≡ Ok (value.List vs)
    by (Ty-F.List e) q g =
        ap (λ d. read_as ds d t) (data_of_List ds vs t ∙ ap (list_written ds vs) q)
        ∙ at_level ds (array (items_data ds vs e)) t (Ty-F.List e) q ∙ list_read e (subst IsTrue (list_is ds vs e) g)
    by _ q g = absurd (true≢false (sym g))

-- what is found of a name that no field has
members_data-other : (ds : Decls) (fs : List Field) (vs : List Value) (others : Members) (name : List ℕ)
    → is_among (field_names fs) name ≡ false
    → get_member name (members_data ds fs vs others) ≡ get_member name others
members_data-other ds [] vs others name h = refl
members_data-other ds (f ∷ fs) [] others name h = refl
members_data-other ds (f ∷ fs) (v ∷ vs) others name h =
    let differ = not_among f.name (field_names fs) name h in
    members_data-other ds fs vs (put f.name (data_of ds v f.ty) others) name differ.1
    ∙ get_member-put_other name f.name (data_of ds v f.ty) others differ.0

-- a member that is found is read
pub member_back : (ds : Decls) (ms : Members) (name : List ℕ) (t : Ty) (v : Value)
    → get_member name ms ≡ Some (data_of ds v t) → read_as ds (data_of ds v t) t ≡ Ok v
    → member_in (members_of ds ms) name t ≡ Ok v
member_back ds ms name t v found back = rw (members_of-get ds ms name, found, back) refl

fields_back : (ds : Decls) (ms : Members) (fs : List Field) (vs : List Value) (others : Members)
    → members_data ds fs vs others ≡ ms → IsTrue (are_distinct (field_names fs)) → Each (IsReadBack ds) vs
    → IsTrue (fields_have_types ds vs fs) → field_values (members_of ds ms) fs ≡ Ok vs
fields_back ds ms [] [] others made distinct back h = refl
fields_back ds ms [] (v ∷ vs) others made distinct back h = absurd (true≢false (sym h))
fields_back ds ms (f ∷ fs) [] others made distinct back h = absurd (true≢false (sym h))
fields_back ds ms (f ∷ fs) (v ∷ vs) others made distinct back h =
    let rest = distinct-first f.name (field_names fs) distinct in
    let found : get_member f.name ms ≡ Some (data_of ds v f.ty) =
    ap (get_member f.name) (sym made)
    ∙ members_data-other ds fs vs (put f.name (data_of ds v f.ty) others) f.name rest.0
    ∙ get_member-put f.name (data_of ds v f.ty) others in
    rw (
      member_back ds ms f.name f.ty v found (back.0 f.ty (grind arith)),
      fields_back ds ms fs vs (put f.name (data_of ds v f.ty) others) made rest.1 back.1 (grind arith),
    ) refl

fields_known : (ds : Decls) (known : List ℕ → Bool) (fs : List Field) (vs : List Value) (others : Members)
    → AreKnown known (field_names fs) → unknown_key known others ≡ None
    → unknown_key known (members_data ds fs vs others) ≡ None
fields_known ds known [] vs others are none = none
fields_known ds known (f ∷ fs) [] others are none = none
fields_known ds known (f ∷ fs) (v ∷ vs) others are none =
    fields_known ds known fs vs (put f.name (data_of ds v f.ty) others) are.1
    (unknown_key-put known f.name (data_of ds v f.ty) others are.0 none)

-- the names of declarations that are distinct
fields_distinct : (ds : Decls) (n : ℕ) (s : Structure) → IsTrue (names_are_distinct ds)
    → slice_get ds.structures n ≡ Some s → IsTrue (fields_are_distinct s)
unfolding names_are_distinct
fields_distinct ds n s h e = list_all_at fields_are_distinct ds.structures n s (grind arith) e

cases_distinct : (ds : Decls) (n : ℕ) (e : Enumeration) → IsTrue (names_are_distinct ds)
    → slice_get ds.enumerations n ≡ Some e → IsTrue (cases_are_distinct e)
unfolding names_are_distinct
cases_distinct ds n e h is = list_all_at cases_are_distinct ds.enumerations n e (grind arith) is

structure_back : (ds : Decls) → IsTrue (names_are_distinct ds) → (vs : List Value) → Each (IsReadBack ds) vs
    → IsReadBack ds (value.Structure vs)
structure_back ds distinct vs back t h =
    by (out-Ty t) refl (rw (has_type-levels ds (value.Structure vs) t, value.outs-Structure vs) at h)
  where
    object_read : (fs : List Field) → IsTrue (are_distinct (field_names fs)) → IsTrue (fields_have_types ds vs fs)
        → structure_in (Some fs) (Some (members_data ds fs vs no_members))
        (members_of ds (members_data ds fs vs no_members)) ≡ Ok (value.Structure vs)
    object_read fs apart typed =
        rw (
          fields_back ds (members_data ds fs vs no_members) fs vs no_members refl apart back typed,
          fields_known ds (is_among (field_names fs)) fs vs no_members (among_themselves (field_names fs)) refl,
        ) refl

    at : (n : ℕ) → out-Ty t ≡ Ty-F.Structure n → (s : Option Structure) → slice_get ds.structures n ≡ s
        → IsTrue (some_passes (fields_have_types ds vs) (fields_in s))
        → read_as ds (data_of ds (value.Structure vs) t) t ≡ Ok (value.Structure vs)
    at n q None e typed = absurd (true≢false (sym typed))
    at n q (Some s) e typed =
        ap (λ d. read_as ds d t) (data_of_Structure ds vs t ∙ ap (structure_written ds vs) q
        ∙ ap (λ o. fields_written ds vs (fields_in o)) e)
        ∙ at_level ds (object (members_data ds s.fields vs no_members)) t (Ty-F.Structure n) q
        ∙ ap (λ o. structure_in (fields_in o) (Some (members_data ds s.fields vs no_members))
        (members_of ds (members_data ds s.fields vs no_members))) e
        ∙ object_read s.fields (fields_distinct ds n s distinct e) typed

    by : (y : Ty-F Ty) → out-Ty t ≡ y → IsTrue (tested ds (Value-F.Structure vs) y)
        → read_as ds (data_of ds (value.Structure vs) t) t ≡ Ok (value.Structure vs)
    by (Ty-F.Structure n) q g = at n q (slice_get ds.structures n) refl (subst IsTrue (structure_is ds vs n) g)
    by _ q g = absurd (true≢false (sym g))

-- a case that is written is read, whatever its content
content_back : (ds : Decls) (t : Ty) (n k : ℕ) (e : Enumeration) (c : Case) (wanted : Option Ty)
    (content : Option Value)
    → out-Ty t ≡ Ty-F.Enumeration n → slice_get ds.enumerations n ≡ Some e
    → case_named 0 c.name e.cases ≡ Some (k, wanted) → Within (IsReadBack ds) content
    → IsTrue (content_has_type ds content wanted)
    → read_as ds (content_written ds c.name wanted content) t ≡ Ok (value.Case k content)
content_back ds t n k e c None None q is named back typed =
    at_level ds (string c.name) t (Ty-F.Enumeration n) q ∙ rw (is, named) refl
content_back ds t n k e c None (Some v) q is named back typed = absurd (true≢false (sym typed))
content_back ds t n k e c (Some u) None q is named back typed = absurd (true≢false (sym typed))
content_back ds t n k e c (Some u) (Some v) q is named back typed =
    at_level ds (object (member c.name (data_of ds v u) no_members)) t (Ty-F.Enumeration n) q
    ∙ rw (
      is,
      named,
      member_back ds (member c.name (data_of ds v u) no_members) c.name u v
          (get_member-put c.name (data_of ds v u) no_members) (back u typed),
    ) refl

case_back : (ds : Decls) → IsTrue (names_are_distinct ds) → (k : ℕ) (content : Option Value)
    → Within (IsReadBack ds) content → IsReadBack ds (value.Case k content)
case_back ds distinct k content back t h = by (out-Ty t) refl
    (subst IsTrue (tested_Case ds k content (out-Ty t))
    (rw (has_type-levels ds (value.Case k content) t, value.outs-Case k content) at h))
  where
    in_case : (n : ℕ) → out-Ty t ≡ Ty-F.Enumeration n → (e : Enumeration) → slice_get ds.enumerations n ≡ Some e
        → (c : Option Case) → slice_get e.cases k ≡ c
        → IsTrue (some_passes (content_has_type ds content) (content_in c))
        → read_as ds (case_written ds content c) t ≡ Ok (value.Case k content)
    in_case n q e is None f typed = absurd (true≢false (sym typed))
    in_case n q e is (Some c) f typed =
        content_back ds t n k e c c.content content q is
        (case_named-first k e.cases c f (cases_distinct ds n e distinct is)) back typed

    at : (n : ℕ) → out-Ty t ≡ Ty-F.Enumeration n → (e : Option Enumeration) → slice_get ds.enumerations n ≡ e
        → IsTrue (some_passes (content_has_type ds content) (case_in k e))
        → read_as ds (data_of ds (value.Case k content) t) t ≡ Ok (value.Case k content)
    at n q None is typed = absurd (true≢false (sym typed))
    at n q (Some e) is typed =
        ap (λ d. read_as ds d t) (data_of_Case ds k content t ∙ ap (enumeration_written ds k content) q
        ∙ ap (numbered_written ds k content) is)
        ∙ in_case n q e is (slice_get e.cases k) refl typed

    by : (y : Ty-F Ty) → out-Ty t ≡ y → IsTrue (case_typed ds k (option_map (has_type ds) content) y)
        → read_as ds (data_of ds (value.Case k content) t) t ≡ Ok (value.Case k content)
    by (Ty-F.Enumeration n) q g = at n q (slice_get ds.enumerations n) refl (subst IsTrue (case_is ds k content n) g)
    by _ q g = absurd (true≢false (sym g))

-- what is written of a value of a type is read as the value
pub value_back : DaysAreRead → (ds : Decls) → IsTrue (names_are_distinct ds) → (v : Value) → IsReadBack ds v
value_back days ds distinct = value_induction (IsReadBack ds) (boolean_back ds) (integer_back ds) (decimal_back ds)
    (money_back ds) (date_back days ds) (duration_back ds) (list_back ds) (structure_back ds distinct)
    (case_back ds distinct)
