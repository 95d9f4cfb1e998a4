-- What is read of a declared type is a value of it.
use Rattle.std.proofs.Common.{◌≡◌, ℕ, zero, suc, ◌+◌, ℤ, Bool, true, false, IsTrue, List, [], ◌∷◌, length}
use Rattle.std.proofs.Common.{nat_le, Option, Some, None, Ok, Err, bytes_eq, if◌then◌else◌, slice_get, Ordering}
use Rattle.std.proofs.Common.{Less, Equal, Greater, refl, sym, ap, subst, arith, ◌∙◌}
use Rattle.std.specs.List.{list_all}
use Rattle.std.specs.Ordering.{nat_cmp, match_ordering}
use Rattle.std.specs.Cmp.Lexicographic.{slice_cmp}
use Rattle.serde_json.specs.Data.{Data, null, boolean, number, string, array, object, Items, no_items, item, Members}
use Rattle.serde_json.specs.Data.{no_members, member}
use Rattle.serde_json.specs.Find.{as_bool, as_str, as_array, as_object}
use Rattle.cat_value.specs.declared.ty.Ty.{Ty}
use Rattle.cat_value.specs.declared.ty.Ty.TheOpen.{Ty-F}
use Rattle.cat_value.specs.declared.ty.Ty.TheFolds.{fold_out-Ty, map-Ty}
use Rattle.cat_value.specs.declared.ty.Ty.TheViews.{out-Ty}
use Rattle.cat_value.specs.declared.value.Value.{Value}
use Rattle.cat_value.specs.declared.value.Value.TheVariants as flat
use Rattle.cat_value.specs.declared.value.Value.TheViews as value
use Rattle.cat_value.specs.declared.declaration.Field.{Field}
use Rattle.cat_value.specs.declared.declaration.Structure.{Structure}
use Rattle.cat_value.specs.declared.declaration.Case.{Case}
use Rattle.cat_value.specs.declared.declaration.Enumeration.{Enumeration}
use Rattle.cat_value.specs.declared.decls.Decls.{Decls}
use Rattle.cat_value.specs.Declarations.{is_declared, names_entry, field_is_sound}
use Rattle.cat_value.specs.Entries.{fields_in as fields_within}
use Rattle.cat_value.specs.Typing.{has_type, is_type, most_elements, all_have_type, fields_have_types}
use Rattle.cat_value.specs.Typing.{is_case}
use Rattle.cat_value.proofs.Exported.{has_type-levels, tested, tested_Case, list_is, structure_is, case_is}
use Rattle.cat_value.proofs.Exported.{fields_declared, content_declared}
use Rattle.cat_json.specs.declared.step.Step.TheVariants.{Element}
use Rattle.cat_json.specs.declared.refusal.Reason.TheVariants.{OutOfRange}
use Rattle.cat_json.specs.Paths.{Reading, refused, at_step, made_of, ahead}
use Rattle.cat_json.specs.WholeNumbers.{integer_of, whole_in}
use Rattle.cat_json.specs.Scalars.{text_day, truth_in, text_in, fraction_in, cents_in}
use Rattle.cat_json.specs.Reads.{Reader, elements_in, list_in, present, member_in, field_values, structure_in}
use Rattle.cat_json.specs.Reads.{case_named, bare_case, full_case, only_key, only_case, enumeration_in, read_level}
use Rattle.cat_json.specs.Reads.{none_named, read_as, elements_of, members_of}
use Rattle.cat_json.specs.Spans.{span_in}
use Rattle.cat_json.specs.Keys.{field_names, with_no_others}
use Rattle.cat_json.proofs.ScalarsTyped.{made_of-is, at_step-is, with_no_others-is, whole_in-fits, fraction_in-reduced}
use Rattle.cat_json.proofs.ScalarsTyped.{cents_in-fits, date_in-IsDay, span_in-is_span}

-- what a reader gives for a declared type is a value of it
abbrev pub IsTyped : Decls → Reader → Type 0
IsTyped ds reader = (t : Ty) (v : Value) → IsTrue (is_type ds t) → reader t ≡ Ok v → IsTrue (has_type ds v t)

-- the same of each reader
abbrev pub AreTyped : Decls → List Reader → Type 0
AreTyped ds [] = Unit {0}
AreTyped ds (reader ∷ readers) = IsTyped ds reader × AreTyped ds readers

-- the same of what a member is read as
abbrev pub MembersTyped : Decls → (List ℕ → Option Reader) → Type 0
MembersTyped ds members = (name : List ℕ) (reader : Reader) → members name ≡ Some reader → IsTyped ds reader

-- a value against one level of a type
abbrev pub IsAt : Decls → Value → Ty-F Ty → Type 0
IsAt ds v y = IsTrue (tested ds (value.out-Value v) y)

boolean_at : (ds : Decls) (r : Reading Bool) (v : Value) → made_of flat.Boolean r ≡ Ok v → IsAt ds v Ty-F.Boolean
boolean_at ds r v e =
    let p = made_of-is flat.Boolean r v e in
    subst (λ (w : Value). IsAt ds w Ty-F.Boolean) p.2 (rw (value.outs-Boolean p.0) refl)

integer_at : (ds : Decls) (n : Option ℤ) (v : Value) → made_of flat.Integer (whole_in n) ≡ Ok v → IsAt ds v Ty-F.Integer
integer_at ds n v e =
    let p = made_of-is flat.Integer (whole_in n) v e in
    subst (λ (w : Value). IsAt ds w Ty-F.Integer) p.2 (rw (value.outs-Integer p.0) (whole_in-fits n p.0 p.1))

decimal_at : (ds : Decls) (n : Option ℤ) (text : Option (List ℕ)) (v : Value)
    → made_of flat.Decimal (fraction_in n text)
    ≡ Ok v → IsAt ds v Ty-F.Decimal
decimal_at ds n text v e =
    let p = made_of-is flat.Decimal (fraction_in n text) v e in
    subst (λ (w : Value). IsAt ds w Ty-F.Decimal) p.2 (rw (value.outs-Decimal p.0) (fraction_in-reduced n text p.0 p.1))

money_at : (ds : Decls) (n : Option ℤ) (text : Option (List ℕ)) (v : Value) → made_of flat.Money (cents_in n text) ≡ Ok
    v → IsAt ds v Ty-F.Money
money_at ds n text v e =
    let p = made_of-is flat.Money (cents_in n text) v e in
    subst (λ (w : Value). IsAt ds w Ty-F.Money) p.2 (rw (value.outs-Money p.0) (cents_in-fits n text p.0 p.1))

date_at : (ds : Decls) (text : Option (List ℕ)) (v : Value) → made_of flat.Date (text_in text_day text) ≡ Ok v
    → IsAt ds v Ty-F.Date
date_at ds text v e =
    let p = made_of-is flat.Date (text_in text_day text) v e in
    subst (λ (w : Value). IsAt ds w Ty-F.Date) p.2 (rw (value.outs-Date p.0) (date_in-IsDay text p.0 p.1))

duration_at : (ds : Decls) (d : Data) (v : Value) → made_of flat.Duration (span_in d) ≡ Ok v → IsAt ds v Ty-F.Duration
duration_at ds d v e =
    let p = made_of-is flat.Duration (span_in d) v e in
    subst (λ (w : Value). IsAt ds w Ty-F.Duration) p.2 (rw (value.outs-Duration p.0) (span_in-is_span d p.0 p.1))

-- the first and the rest, where both are read
pub ahead-is : {A : Type 0} (first : Reading A) (rest : Reading (List A)) (all : List A) → ahead first rest ≡ Ok all
    → (x : A) × (xs : List A) × (first ≡ Ok x) × (rest ≡ Ok xs) × (x ∷ xs ≡ all)
ahead-is (Ok x) (Ok xs) all e = (x, xs, refl, refl, cc)
ahead-is (Ok x) (Err refusal) all e = absurd (cc)
ahead-is (Err refusal) rest all e = absurd (cc)

elements_typed : (ds : Decls) (k : ℕ) (readers : List Reader) (t : Ty) (vs : List Value) → AreTyped ds readers
    → IsTrue (is_type ds t) → elements_in k readers t ≡ Ok vs
    → (all_have_type ds vs t ≡ true) × (length vs ≡ length readers)
elements_typed ds k [] t vs typed h e =
    let same : [] ≡ vs = cc in
    subst (λ (ws : List Value). (all_have_type ds ws t ≡ true) × (length ws ≡ 0)) same (refl, refl)
elements_typed ds k (reader ∷ readers) t vs typed h e =
    let p = ahead-is (at_step (Element k) (reader t)) (elements_in (suc k) readers t) vs e in
    let first = typed.0 t p.0 h (at_step-is _ (reader t) p.0 p.2) in
    let rest = elements_typed ds (suc k) readers t p.1 typed.1 h p.3 in
    subst (λ (ws : List Value). (all_have_type ds ws t ≡ true) × (length ws ≡ suc (length readers))) p.4
    (rw (first, rest.0) refl, ap suc rest.1)

list_at : (ds : Decls) (items : Option Items) (readers : List Reader) (t : Ty) (v : Value) → AreTyped ds readers
    → IsTrue (is_type ds t) → list_in items readers t ≡ Ok v → IsAt ds v (Ty-F.List t)
list_at ds None readers t v typed h e = absurd (cc)
list_at ds (Some items) readers t v typed h e = by (nat_le (length readers) most_elements) refl e
  where
    by : (few : Bool) → nat_le (length readers) most_elements ≡ few
        → (if few then made_of value.List (elements_in 0 readers t) else refused OutOfRange) ≡ Ok v
        → IsAt ds v (Ty-F.List t)
    by false n e = absurd (cc)
    by true n e =
        let p = made_of-is value.List (elements_in 0 readers t) v e in
        let all = elements_typed ds 0 readers t p.0 typed h p.1 in
        subst (λ (w : Value). IsAt ds w (Ty-F.List t)) p.2
        (rw (value.outs-List p.0) (list_is ds p.0 t ∙ rw (h, all.1, n, all.0) refl))

present_typed : (ds : Decls) (found : Option Reader) (t : Ty) (v : Value)
    → ((reader : Reader) → found ≡ Some reader → IsTyped ds reader) → IsTrue (is_type ds t) → present found t ≡ Ok v
    → IsTrue (has_type ds v t)
present_typed ds None t v typed h e = absurd (cc)
present_typed ds (Some reader) t v typed h e = typed reader refl t v h e

pub member_typed : (ds : Decls) (members : List ℕ → Option Reader) (name : List ℕ) (t : Ty) (v : Value)
    → MembersTyped ds members → IsTrue (is_type ds t) → member_in members name t ≡ Ok v → IsTrue (has_type ds v t)
member_typed ds members name t v typed h e =
    present_typed ds (members name) t v (typed name) h (at_step-is _ (present (members name) t) v e)

first_declared : (ds : Decls) (f : Field) (fs : List Field)
    → IsTrue (list_all (field_is_sound ds.structures ds.enumerations) (f ∷ fs))
    → IsTrue (is_type ds f.ty) × IsTrue (list_all (field_is_sound ds.structures ds.enumerations) fs)
first_declared ds f fs h = (grind arith, grind arith)

fields_typed : (ds : Decls) (members : List ℕ → Option Reader) (fs : List Field) (vs : List Value)
    → MembersTyped ds members → IsTrue (list_all (field_is_sound ds.structures ds.enumerations) fs)
    → field_values members fs ≡ Ok vs
    → fields_have_types ds vs fs ≡ true
fields_typed ds members [] vs typed h e = let same : [] ≡ vs =
    cc in subst (λ (ws : List Value). fields_have_types ds ws [] ≡ true) same refl
fields_typed ds members (f ∷ fs) vs typed h e =
    let declared = first_declared ds f fs h in
    let p = ahead-is (member_in members f.name f.ty) (field_values members fs) vs e in
    let first = member_typed ds members f.name f.ty p.0 typed declared.0 p.2 in
    let rest = fields_typed ds members fs p.1 typed declared.1 p.3 in
    subst (λ (ws : List Value). fields_have_types ds ws (f ∷ fs) ≡ true) p.4 (rw (first, rest) refl)

structure_at : (ds : Decls) (n : ℕ) (ms : Option Members) (members : List ℕ → Option Reader) (v : Value)
    → MembersTyped ds members → structure_in (fields_within (slice_get ds.structures n)) ms members ≡ Ok v
    → IsAt ds v (Ty-F.Structure n)
structure_at ds n ms members v typed e = by (slice_get ds.structures n) ms refl e
  where
    by : (s : Option Structure) (ms : Option Members) → slice_get ds.structures n ≡ s → structure_in (fields_within s)
        ms members ≡ Ok v → IsAt ds v (Ty-F.Structure n)
    by None ms q e = absurd (cc)
    by (Some s) None q e = absurd (cc)
    by (Some s) (Some ms) q e =
        let p = made_of-is value.Structure (with_no_others (field_names s.fields) ms (field_values members s.fields)) v
        e
        in
        let all = fields_typed ds members s.fields p.0 typed (fields_declared ds n s q)
        (with_no_others-is _ ms _ p.0 p.1) in
        subst (λ (w : Value). IsAt ds w (Ty-F.Structure n)) p.2
        (rw (value.outs-Structure p.0) (structure_is ds p.0 n ∙ rw q all))

-- the parts of what is found
abbrev number_found : Option (ℕ × Option Ty) → ℕ
number_found None = zero
number_found (Some found) = found.0

abbrev content_found : Option (ℕ × Option Ty) → Option Ty
content_found None = None
content_found (Some found) = found.1

-- the case that is found
case_named-at : (k : ℕ) (name : List ℕ) (cs : List Case) (i : ℕ) (content : Option Ty) → case_named k name cs ≡ Some
    (i, content)
    → (j : ℕ) × (c : Case) × (i ≡ k + j) × (slice_get cs j ≡ Some c) × (c.content ≡ content)
case_named-at k name [] i content e = absurd (cc)
case_named-at k name (c ∷ cs) i content e = by (bytes_eq name c.name) (case_named-at (suc k) name cs i content) e
  where
    by : (test : Bool)
        → (case_named (suc k) name cs ≡ Some (i, content) → (j : ℕ) × (d : Case) × (i ≡ suc k + j)
        × (slice_get cs j ≡ Some d) × (d.content ≡ content))
        → (if test then Some (k, c.content) else case_named (suc k) name cs) ≡ Some (i, content)
        → (j : ℕ) × (d : Case) × (i ≡ k + j) × (slice_get (c ∷ cs) j ≡ Some d) × (d.content ≡ content)
    by true rest e =
        let number : k ≡ i = ap number_found e in
        let same : c.content ≡ content = ap content_found e in
        (zero, c, omega arith, refl, same)
    by false rest e =
        let p = rest e in
        (suc p.0, p.1, omega (arith, p.2), p.3, p.4)

-- a case with a content, or with none, that is one of the enumeration
case_at : (ds : Decls) (n k : ℕ) (content : Option Value) (v : Value) → value.Case k content ≡ v
    → IsTrue (is_case ds n k content) → IsAt ds v (Ty-F.Enumeration n)
case_at ds n k content v e h =
    subst (λ (w : Value). IsAt ds w (Ty-F.Enumeration n)) e
    (rw (value.outs-Case k content) (tested_Case ds k content (Ty-F.Enumeration n) ∙ case_is ds k content n ∙ h))

bare_at : (ds : Decls) (n : ℕ) (e : Enumeration) (name : List ℕ) (found : Option (ℕ × Option Ty)) (v : Value)
    → slice_get ds.enumerations n ≡ Some e → case_named 0 name e.cases ≡ found → bare_case found ≡ Ok v
    → IsAt ds v (Ty-F.Enumeration n)
bare_at ds n e name None v q is r = absurd (cc)
bare_at ds n e name (Some (k, Some t)) v q is r = absurd (cc)
bare_at ds n e name (Some (k, None)) v q is r =
    let p = case_named-at 0 name e.cases k None is in
    let number : k ≡ p.0 = omega (arith, p.2) in
    let same : value.Case k None ≡ v = cc in
    case_at ds n k None v same (rw (q, number, p.3, p.4) refl)

content_at : (ds : Decls) (n j : ℕ) (e : Enumeration) (c : Case) (t : Ty) (w : Value) → slice_get ds.enumerations n
    ≡ Some e → slice_get e.cases j ≡ Some c → c.content ≡ Some t → IsTrue (has_type ds w t)
    → IsTrue (is_case ds n j (Some w))
content_at ds n j e c t w q found content h = rw (q, found, content) h

full_at : (ds : Decls) (n : ℕ) (e : Enumeration) (members : List ℕ → Option Reader) (name : List ℕ)
    (found : Option (ℕ × Option Ty)) (v : Value) → MembersTyped ds members → slice_get ds.enumerations n ≡ Some e
    → case_named 0 name e.cases ≡ found
    → full_case members name found ≡ Ok v → IsAt ds v (Ty-F.Enumeration n)
full_at ds n e members name None v typed q is r = absurd (cc)
full_at ds n e members name (Some (k, None)) v typed q is r = absurd (cc)
full_at ds n e members name (Some (k, Some t)) v typed q is r =
    let p = case_named-at 0 name e.cases k (Some t) is in
    let number : k ≡ p.0 = omega (arith, p.2) in
    let c = made_of-is (λ (content : Value). value.Case k (Some content)) (member_in members name t) v r in
    let declared = content_declared ds n p.0 e p.1 t q p.3 p.4 in
    let typed_content = member_typed ds members name t c.0 typed declared c.1 in
    case_at ds n k (Some c.0) v c.2 (subst (λ (m : ℕ). IsTrue (is_case ds n m (Some c.0))) (sym number)
    (content_at ds n p.0 e p.1 t c.0 q p.3 p.4 typed_content))

only_at : (ds : Decls) (n : ℕ) (e : Enumeration) (members : List ℕ → Option Reader) (key : Option (List ℕ)) (v : Value)
    → MembersTyped ds members → slice_get ds.enumerations n ≡ Some e → only_case members e.cases key ≡ Ok v
    → IsAt ds v (Ty-F.Enumeration n)
only_at ds n e members None v typed q r = absurd (cc)
only_at ds n e members (Some name) v typed q r = full_at ds n e members name (case_named 0 name e.cases) v typed q refl
    r

enumeration_at : (ds : Decls) (n : ℕ) (text : Option (List ℕ)) (ms : Option Members) (members : List ℕ → Option Reader)
    (v : Value) → MembersTyped ds members → enumeration_in (slice_get ds.enumerations n) text ms members ≡ Ok v
    → IsAt ds v (Ty-F.Enumeration n)
enumeration_at ds n text ms members v typed r = by (slice_get ds.enumerations n) text refl r
  where
    by : (e : Option Enumeration) (text : Option (List ℕ)) → slice_get ds.enumerations n ≡ e → enumeration_in e text ms
        members
        ≡ Ok v → IsAt ds v (Ty-F.Enumeration n)
    by None text q r = absurd (cc)
    by (Some e) (Some name) q r = bare_at ds n e name (case_named 0 name e.cases) v q refl r
    by (Some e) None q r = only_at ds n e members (only_key ms) v typed q r

-- one level of a type that is declared
abbrev pub level_declared : Decls → Ty-F Ty → Bool
level_declared ds y =
    names_entry ds.structures ds.enumerations (map-Ty Ty Bool (is_declared ds.structures ds.enumerations) y)

declared-level : (ds : Decls) (t : Ty) → is_type ds t ≡ level_declared ds (out-Ty t)
unfolding is_declared
declared-level ds t = fold_out-Ty Bool (names_entry ds.structures ds.enumerations) t

level_at : (ds : Decls) (d : Data) (readers : List Reader) (members : List ℕ → Option Reader) (y : Ty-F Ty) (v : Value)
    → AreTyped ds readers → MembersTyped ds members → IsTrue (level_declared ds y) → read_level ds d readers members y
    ≡ Ok v → IsAt ds v y
level_at ds d readers members Ty-F.Boolean v a m h e = boolean_at ds (truth_in (as_bool d)) v e
level_at ds d readers members Ty-F.Integer v a m h e = integer_at ds (integer_of d) v e
level_at ds d readers members Ty-F.Decimal v a m h e = decimal_at ds (integer_of d) (as_str d) v e
level_at ds d readers members Ty-F.Money v a m h e = money_at ds (integer_of d) (as_str d) v e
level_at ds d readers members Ty-F.Date v a m h e = date_at ds (as_str d) v e
level_at ds d readers members Ty-F.Duration v a m h e = duration_at ds d v e
level_at ds d readers members (Ty-F.List t) v a m h e = list_at ds (as_array d) readers t v a h e
level_at ds d readers members (Ty-F.Structure n) v a m h e = structure_at ds n (as_object d) members v m e
level_at ds d readers members (Ty-F.Enumeration n) v a m h e =
    enumeration_at ds n (as_str d) (as_object d) members v m e

by_level : (ds : Decls) (d : Data) (readers : List Reader) (members : List ℕ → Option Reader) (t : Ty) (v : Value)
    → AreTyped ds readers → MembersTyped ds members → IsTrue (is_type ds t) → read_level ds d readers members (out-Ty t)
    ≡ Ok v
    → IsTrue (has_type ds v t)
by_level ds d readers members t v a m h e = has_type-levels ds v t ∙ level_at ds d readers members (out-Ty t) v a m
    (sym (declared-level ds t) ∙ h) e

pub none_typed : (ds : Decls) → MembersTyped ds none_named
none_typed ds name reader e = absurd (cc)

by_order : (ds : Decls) (o : Ordering) (here : Reader) (later : Option Reader) (reader : Reader) → IsTyped ds here
    → ((other : Reader) → later ≡ Some other → IsTyped ds other) → match_ordering o later (Some here) later ≡ Some
    reader
    → IsTyped ds reader
by_order ds Less here later reader h k e = k reader e
by_order ds Equal here later reader h k e = let same : here ≡ reader = cc in subst (IsTyped ds) same h
by_order ds Greater here later reader h k e = k reader e

mutual
  pub read_as-typed : (ds : Decls) (d : Data) → IsTyped ds (read_as ds d)
  read_as-typed ds null t v h e = by_level ds null [] none_named t v tt (none_typed ds) h e
  read_as-typed ds (boolean b) t v h e = by_level ds (boolean b) [] none_named t v tt (none_typed ds) h e
  read_as-typed ds (number n) t v h e = by_level ds (number n) [] none_named t v tt (none_typed ds) h e
  read_as-typed ds (string s) t v h e = by_level ds (string s) [] none_named t v tt (none_typed ds) h e
  read_as-typed ds (array items) t v h e =
      by_level ds (array items) (elements_of ds items) none_named t v (elements_of-typed ds items) (none_typed ds) h e
  read_as-typed ds (object ms) t v h e = by_level ds (object ms) [] (members_of ds ms) t v tt (members_of-typed ds ms) h
      e

  pub elements_of-typed : (ds : Decls) (items : Items) → AreTyped ds (elements_of ds items)
  elements_of-typed ds no_items = tt
  elements_of-typed ds (item d items) = (read_as-typed ds d, elements_of-typed ds items)

  pub members_of-typed : (ds : Decls) (ms : Members) → MembersTyped ds (members_of ds ms)
  members_of-typed ds no_members name reader e = absurd (cc)
  members_of-typed ds (member key d ms) name reader e =
      by_order ds (slice_cmp nat_cmp name key) (read_as ds d) (members_of ds ms name) reader (read_as-typed ds d)
      (members_of-typed ds ms name) e
