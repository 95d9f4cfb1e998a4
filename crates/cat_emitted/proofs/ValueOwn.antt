-- What is written of a value of a type of spelled declarations is JSON that is read back.
use Rattle.std.proofs.Common.{◌≡◌, ◌≤◌, ◌+◌, ℕ, ℤ, pos, negsuc}
use Rattle.std.proofs.Common.{true≢false, IsTrue, List, [], ◌∷◌}
use Rattle.std.proofs.Common.{Option, Some, None, Ordering, Less, Equal, Greater, slice_get, refl, sym}
use Rattle.std.proofs.Common.{ap}
use Rattle.std.proofs.Common.{◌∙◌, subst, arith, codes}
use Rattle.std.specs.Option.{option_map}
use Rattle.std.specs.Ordering.{nat_cmp, match_ordering, ordering_reverse}
use Rattle.std.specs.Cmp.Lexicographic.{slice_cmp}
use Rattle.std.specs.Str.{IsUtf8}
use Rattle.std.proofs.lemmas.Bool.{and_parts}
use Rattle.std.proofs.lemmas.Bool.Decides.{nat_tests}
use Rattle.std.proofs.lemmas.Cmp.{nat_list_cmp_total}
use Rattle.serde_json.specs.Data.{Data, Members}
use Rattle.serde_json.specs.Data.{no_members, member, put}
use Rattle.cat_num.specs.Whole.{fits, largest}
use Rattle.cat_date.specs.Span.{SpanOf, is_span}
use Rattle.cat_value.specs.declared.ty.Ty.{Ty}
use Rattle.cat_value.specs.declared.ty.Ty.TheOpen.{Ty-F}
use Rattle.cat_value.specs.declared.ty.Ty.TheViews.{out-Ty}
use Rattle.cat_value.specs.declared.value.Value.{Value}
use Rattle.cat_value.specs.declared.value.Value.TheOpen.{Value-F}
use Rattle.cat_value.specs.declared.value.Value.TheVariants as flat
use Rattle.cat_value.specs.declared.value.Value.TheViews as value
use Rattle.cat_value.specs.declared.declaration.Field.{Field}
use Rattle.cat_value.specs.declared.declaration.Structure.{Structure}
use Rattle.cat_value.specs.declared.declaration.Case.{Case}
use Rattle.cat_value.specs.declared.declaration.Enumeration.{Enumeration}
use Rattle.cat_value.specs.declared.decls.Decls.{Decls}
use Rattle.cat_value.specs.Entries.{some_passes, fields_in, content_in, case_in}
use Rattle.cat_value.specs.Flat.{integer_typed, date_typed, duration_typed}
use Rattle.cat_value.specs.Typing.{has_type, all_have_type, elements_typed, fields_have_types, content_has_type}
use Rattle.cat_value.specs.Typing.{case_typed}
use Rattle.cat_value.proofs.Exported.{Each, Within, value_induction, has_type-levels, tested, tested_Case, list_is}
use Rattle.cat_value.proofs.Exported.{structure_is, case_is, has_type_Integer, has_type_Date, has_type_Duration}
use Rattle.cat_answer.specs.Writes.{data_of, integer_data, span_data}
use Rattle.cat_answer.specs.WrittenParts.{items_data, members_data, list_written, fields_written, structure_written}
use Rattle.cat_answer.specs.WrittenParts.{content_written, case_written, numbered_written, enumeration_written}
use Rattle.cat_answer.proofs.WriteEquations.{data_of_Boolean, data_of_Integer, data_of_Decimal, data_of_Money}
use Rattle.cat_answer.proofs.WriteEquations.{data_of_Date, data_of_Duration, data_of_List, data_of_Structure}
use Rattle.cat_answer.proofs.WriteEquations.{data_of_Case}
use Rattle.cat_date.specs.Text.{day_text}
use Rattle.cat_scope.specs.Names.{AllHave}
use Rattle.cat_emitted.specs.Spelled.{AreSpelledDecls, IsTypeWord, IsPartWord}
use Rattle.cat_emitted.proofs.ListFacts.{all_at}
use Rattle.cat_emitted.proofs.LineFacts.{low_utf8}
use Rattle.cat_emitted.proofs.PlainTexts.{fraction_utf8, money_utf8, day_utf8}
use Rattle.cat_emitted.proofs.JsonBack.{IsOwn, AreOwnItems, AreOwnMembers, AllAbove}

-- ---- members that are put

above_put : (k l : List ℕ) (d : Data) (ms : Members) → AllAbove k ms → slice_cmp nat_cmp k l ≡ Less
    → AllAbove k (put l d ms)
above_put k l d no_members above less = (less, tt)
above_put k l d (member m e ms) above less = by (slice_cmp nat_cmp l m) (above_put k l d ms above.1 less)
  where
    by : (o : Ordering) → AllAbove k (put l d ms)
        → AllAbove k (match_ordering o (member l d (member m e ms)) (member m d ms) (member m e (put l d ms)))
    by Less more = (less, above)
    by Equal more = above
    by Greater more = (above.0, more)

above_more : (k l : List ℕ) (ms : Members) → slice_cmp nat_cmp k l ≡ Less → AllAbove l ms → AllAbove k ms
above_more k l no_members less above = tt
above_more k l (member m e ms) less above =
    (nat_list_cmp_total.trans k l m less above.0, above_more k l ms less above.1)

own_put : (k : List ℕ) (d : Data) (ms : Members) → IsUtf8 k → IsOwn d → AreOwnMembers ms → AreOwnMembers (put k d ms)
own_put k d no_members key own all = (key, own, tt, tt)
own_put k d (member l e ms) key own all = by (slice_cmp nat_cmp k l) refl (own_put k d ms key own all.3)
  where
    by : (o : Ordering) → slice_cmp nat_cmp k l ≡ o → AreOwnMembers (put k d ms)
        → AreOwnMembers (match_ordering o (member k d (member l e ms)) (member l d ms) (member l e (put k d ms)))
    by Less is more = (key, own, (is, above_more k l ms is all.2), all)
    by Equal is more = (all.0, own, all.2, all.3)
    by Greater is more =
        (all.0, all.1, above_put l k d ms all.2 (nat_list_cmp_total.antisymm l k ∙ ap ordering_reverse is), more)

-- ---- numbers

integer_own : (n : ℤ) → IsTrue (fits n) → IsOwn (integer_data n)
integer_own (pos n) h = let few : n ≤ largest = grind (arith, nat_tests, h) in omega (arith, few)
integer_own (negsuc n) h = let few : n + 1 ≤ largest = grind (arith, nat_tests, h) in omega (arith, few)

span_own : (span : SpanOf) → IsTrue (is_span span) → IsOwn (span_data span)
span_own span h =
    own_put (codes "months") (integer_data span.months) (put (codes "days") (integer_data span.days) no_members)
    (low_utf8 (codes "months") refl) (integer_own span.months (grind (arith, nat_tests, h)))
    (own_put (codes "days") (integer_data span.days) no_members (low_utf8 (codes "days") refl)
    (integer_own span.days (grind (arith, nat_tests, h))) tt)

-- ---- values

abbrev IsOwnFor : Decls → Value → Type 0
IsOwnFor ds v = (t : Ty) → IsTrue (has_type ds v t) → IsOwn (data_of ds v t)

module _ (ds : Decls) (spelled : AreSpelledDecls ds) where
  integer_for : (n : ℤ) → IsOwnFor ds (flat.Integer n)
  integer_for n t h = rw (data_of_Integer ds n t) (by (out-Ty t) (rw (has_type_Integer ds n t) at h))
    where
      by : (y : Ty-F Ty) → IsTrue (integer_typed n y) → IsOwn (integer_data n)
      by Ty-F.Integer g = integer_own n g
      by _ g = absurd (true≢false (sym g))

  date_for : (day : ℤ) → IsOwnFor ds (flat.Date day)
  date_for day t h = rw (data_of_Date ds day t) (by (out-Ty t) (rw (has_type_Date ds day t) at h))
    where
      by : (y : Ty-F Ty) → IsTrue (date_typed day y) → IsUtf8 (day_text day)
      by Ty-F.Date g = day_utf8 day g
      by _ g = absurd (true≢false (sym g))

  duration_for : (span : SpanOf) → IsOwnFor ds (flat.Duration span)
  duration_for span t h = rw (data_of_Duration ds span t) (by (out-Ty t) (rw (has_type_Duration ds span t) at h))
    where
      by : (y : Ty-F Ty) → IsTrue (duration_typed span y) → IsOwn (span_data span)
      by Ty-F.Duration g = span_own span g
      by _ g = absurd (true≢false (sym g))

  items_own : (e : Ty) (vs : List Value) → Each (IsOwnFor ds) vs → IsTrue (all_have_type ds vs e)
      → AreOwnItems (items_data ds vs e)
  items_own e [] each h = tt
  items_own e (v ∷ vs) each h =
      let parts = and_parts (has_type ds v e) (all_have_type ds vs e) h in
      (each.0 e parts.0, items_own e vs each.1 parts.1)

  list_for : (vs : List Value) → Each (IsOwnFor ds) vs → IsOwnFor ds (value.List vs)
  list_for vs each t h = rw (data_of_List ds vs t)
      (by (out-Ty t) (rw (has_type-levels ds (value.List vs) t, value.outs-List vs) at h))
    where
      by : (y : Ty-F Ty) → IsTrue (tested ds (Value-F.List vs) y) → IsOwn (list_written ds vs y)
      by (Ty-F.List e) g =
          let typed : IsTrue (elements_typed ds vs e) = subst IsTrue (list_is ds vs e) g in
          items_own e vs each (grind arith)
      by _ g = absurd (true≢false (sym g))

  members_own : (fs : List Field) (vs : List Value) (others : Members) → AllHave (λ f. IsPartWord f.name) fs
      → Each (IsOwnFor ds) vs → IsTrue (fields_have_types ds vs fs) → AreOwnMembers others
      → AreOwnMembers (members_data ds fs vs others)
  members_own [] [] others words each h own = own
  members_own [] (v ∷ vs) others words each h own = absurd (true≢false (sym h))
  members_own (f ∷ fs) [] others words each h own = absurd (true≢false (sym h))
  members_own (f ∷ fs) (v ∷ vs) others words each h own =
      let parts = and_parts (has_type ds v f.ty) (fields_have_types ds vs fs) h in
      members_own fs vs (put f.name (data_of ds v f.ty) others) words.1 each.1 parts.1
      (own_put f.name (data_of ds v f.ty) others words.0.utf8 (each.0 f.ty parts.0) own)

  structure_for : (vs : List Value) → Each (IsOwnFor ds) vs → IsOwnFor ds (value.Structure vs)
  structure_for vs each t h = rw (data_of_Structure ds vs t)
      (by (out-Ty t) (rw (has_type-levels ds (value.Structure vs) t, value.outs-Structure vs) at h))
    where
      at : (n : ℕ) (o : Option Structure) → slice_get ds.structures n ≡ o
          → IsTrue (some_passes (fields_have_types ds vs) (fields_in o)) → IsOwn (fields_written ds vs (fields_in o))
      at n None is g = absurd (true≢false (sym g))
      at n (Some s) is g =
          members_own s.fields vs no_members (all_at _ ds.structures n s spelled.structures is).fields each g tt

      by : (y : Ty-F Ty) → IsTrue (tested ds (Value-F.Structure vs) y) → IsOwn (structure_written ds vs y)
      by (Ty-F.Structure n) g = at n (slice_get ds.structures n) refl (subst IsTrue (structure_is ds vs n) g)
      by _ g = absurd (true≢false (sym g))

  content_own : (name : List ℕ) → IsUtf8 name → (wanted : Option Ty) (content : Option Value)
      → Within (IsOwnFor ds) content → IsTrue (content_has_type ds content wanted)
      → IsOwn (content_written ds name wanted content)
  content_own name key None None each h = key
  content_own name key None (Some v) each h = tt
  content_own name key (Some t) None each h = tt
  content_own name key (Some t) (Some v) each h = (key, each t h, tt, tt)

  case_for : (k : ℕ) (content : Option Value) → Within (IsOwnFor ds) content → IsOwnFor ds (value.Case k content)
  case_for k content each t h = rw (data_of_Case ds k content t)
      (by (out-Ty t) (subst IsTrue (tested_Case ds k content (out-Ty t))
      (rw (has_type-levels ds (value.Case k content) t, value.outs-Case k content) at h)))
    where
      in_case : (n : ℕ) (e : Enumeration) → slice_get ds.enumerations n ≡ Some e → (c : Option Case)
          → slice_get e.cases k ≡ c → IsTrue (some_passes (content_has_type ds content) (content_in c))
          → IsOwn (case_written ds content c)
      in_case n e is None own g = tt
      in_case n e is (Some c) own g =
          let words = (all_at _ ds.enumerations n e spelled.enumerations is).cases in
          content_own c.name (all_at (λ (d : Case). IsTypeWord d.name) e.cases k c words own).utf8 c.content content
          each g

      at : (n : ℕ) (o : Option Enumeration) → slice_get ds.enumerations n ≡ o
          → IsTrue (some_passes (content_has_type ds content) (case_in k o)) → IsOwn (numbered_written ds k content o)
      at n None is g = tt
      at n (Some e) is g = in_case n e is (slice_get e.cases k) refl g

      by : (y : Ty-F Ty) → IsTrue (case_typed ds k (option_map (has_type ds) content) y)
          → IsOwn (enumeration_written ds k content y)
      by (Ty-F.Enumeration n) g = at n (slice_get ds.enumerations n) refl (subst IsTrue (case_is ds k content n) g)
      by _ g = absurd (true≢false (sym g))

  pub value_own : (v : Value) → IsOwnFor ds v
  value_own = value_induction (IsOwnFor ds)
      (λ b t h. rw (data_of_Boolean ds b t) tt) integer_for
      (λ f t h. rw (data_of_Decimal ds f t) (fraction_utf8 f)) (λ n t h. rw (data_of_Money ds n t) (money_utf8 n))
      date_for duration_for list_for structure_for case_for
