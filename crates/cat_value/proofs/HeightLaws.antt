-- The height of a type is one more than that of its highest part, and no value is higher than its type.
use Rattle.std.proofs.Common.{◌≡◌, ℕ, zero, suc, ◌+◌, ◌≤◌, Bool, IsTrue, List, [], ◌∷◌, map, Option, None, Some}
use Rattle.std.proofs.Common.{slice_get, rules, arith, refl, sym, true≢false, ℤ}
use Rattle.std.specs.Option.{option_map}
use Rattle.cat_num.specs.Frac.{Fraction}
use Rattle.cat_date.specs.Span.{SpanOf}
use Rattle.cat_value.specs.declared.ty.Ty.{Ty}
use Rattle.cat_value.specs.declared.ty.Ty.TheOpen.{Ty-F}
use Rattle.cat_value.specs.declared.ty.Ty.TheVariants as flat_ty
use Rattle.cat_value.specs.declared.ty.Ty.TheViews as ty
use Rattle.cat_value.specs.declared.value.Value.{Value}
use Rattle.cat_value.specs.declared.value.Value.TheVariants as flat
use Rattle.cat_value.specs.declared.value.Value.TheViews as value
use Rattle.cat_value.specs.declared.value.Value.TheFolds.{fold_out-Value}
use Rattle.cat_value.specs.declared.declaration.Field.{Field}
use Rattle.cat_value.specs.declared.declaration.Structure.{Structure}
use Rattle.cat_value.specs.declared.declaration.Case.{Case}
use Rattle.cat_value.specs.declared.declaration.Enumeration.{Enumeration}
use Rattle.cat_value.specs.declared.decls.Decls.{Decls}
use Rattle.cat_value.specs.Declarations.{highest}
use Rattle.cat_value.specs.Heights.{height_to, highest_field, highest_content, content_height, structure_parts}
use Rattle.cat_value.specs.Heights.{enumeration_parts, highest_part}
use Rattle.cat_value.specs.Laws.{height_of, part_height, value_height, height_at, case_height, greatest}
use Rattle.cat_value.specs.Typing.{has_type, all_have_type, elements_typed, fields_have_types, content_has_type}
use Rattle.cat_value.specs.Entries.{some_passes, fields_in, content_in, case_in}
use Rattle.cat_value.proofs.Descending.{height_positive, height_List, height_Structure, height_Enumeration}
use Rattle.cat_value.proofs.Induction.{Each, Within, value_induction}
use Rattle.cat_value.proofs.Inversions.{list_of, structure_of, case_of}

pub height_step : (ss : List Structure) (es : List Enumeration) (k : ℕ) (t : Ty) → height_to ss es (suc k) t ≡ 1 +
    highest_part ss es (height_to ss es k) (ty.out-Ty t)
unfolding height_to
height_step ss es k t = refl

-- two measures that agree on what is at most so high
abbrev AgreesTo : ℕ → (Ty → ℕ) → (Ty → ℕ) → Type 0
AgreesTo bound f g = (t : Ty) → f t ≤ bound → g t ≡ f t

fields_agree : (bound : ℕ) (f g : Ty → ℕ) → AgreesTo bound f g → (fs : List Field) → highest_field f fs ≤ bound
    → highest_field g fs ≡ highest_field f fs
fields_agree bound f g agree [] h = refl
fields_agree bound f g agree (x ∷ xs) h =
    let first = agree x.ty (omega arith) in
    let rest = fields_agree bound f g agree xs (omega arith) in
    omega arith

content_agrees : (bound : ℕ) (f g : Ty → ℕ) → AgreesTo bound f g → (content : Option Ty) → content_height f content ≤
    bound → content_height g content ≡ content_height f content
content_agrees bound f g agree None h = refl
content_agrees bound f g agree (Some t) h = agree t h

contents_agree : (bound : ℕ) (f g : Ty → ℕ) → AgreesTo bound f g → (cs : List Case) → highest_content f cs ≤ bound
    → highest_content g cs ≡ highest_content f cs
contents_agree bound f g agree [] h = refl
contents_agree bound f g agree (x ∷ xs) h =
    let first = content_agrees bound f g agree x.content (omega arith) in
    let rest = contents_agree bound f g agree xs (omega arith) in
    omega arith

structure_agrees : (bound : ℕ) (f g : Ty → ℕ) → AgreesTo bound f g → (s : Option Structure)
    → structure_parts f s ≤ bound → structure_parts g s ≡ structure_parts f s
structure_agrees bound f g agree None h = refl
structure_agrees bound f g agree (Some s) h = fields_agree bound f g agree s.fields h

enumeration_agrees : (bound : ℕ) (f g : Ty → ℕ) → AgreesTo bound f g → (e : Option Enumeration)
    → enumeration_parts f e ≤ bound → enumeration_parts g e ≡ enumeration_parts f e
enumeration_agrees bound f g agree None h = refl
enumeration_agrees bound f g agree (Some e) h = contents_agree bound f g agree e.cases h

parts_agree : (ss : List Structure) (es : List Enumeration) (bound : ℕ) (f g : Ty → ℕ) → AgreesTo bound f g
    → (y : Ty-F Ty) → highest_part ss es f y ≤ bound
    → highest_part ss es g y ≡ highest_part ss es f y
parts_agree ss es bound f g agree (Ty-F.List t) h = agree t h
parts_agree ss es bound f g agree (Ty-F.Structure n) h = structure_agrees bound f g agree (slice_get ss n) h
parts_agree ss es bound f g agree (Ty-F.Enumeration n) h = enumeration_agrees bound f g agree (slice_get es n) h
parts_agree ss es bound f g agree _ h = refl

-- a height that is no greater than the bound is the same under a greater one
stays : (ss : List Structure) (es : List Enumeration) (k : ℕ) → AgreesTo k (height_to ss es k) (height_to ss es (suc k))
stays ss es zero t h = absurd (omega (arith, height_positive ss es zero t))
stays ss es (suc k) t h =
    let step = height_step ss es k t in
    let above = height_step ss es (suc k) t in
    let same = parts_agree ss es k (height_to ss es k) (height_to ss es (suc k)) (stays ss es k) (ty.out-Ty t)
    (omega arith) in
    omega arith

pub height_is : (ss : List Structure) (es : List Enumeration) (k : ℕ) (t : Ty) → height_to ss es (suc k) t ≤ suc k
    → height_to ss es (suc k) t ≡ 1 + highest_part ss es (height_to ss es (suc k)) (ty.out-Ty t)
height_is ss es k t h =
    let step = height_step ss es k t in
    let same = parts_agree ss es k (height_to ss es k) (height_to ss es (suc k)) (stays ss es k) (ty.out-Ty t)
    (omega arith) in
    omega arith

pub height_of_is : (ds : Decls) (t : Ty) → height_of ds t ≤ highest → height_of ds t ≡ 1 + part_height ds (ty.out-Ty t)
height_of_is ds t h = height_is ds.structures ds.enumerations 63 t h

pub value_height_Boolean : (b : Bool) → value_height (flat.Boolean b) ≡ 1
unfolding value_height
value_height_Boolean b = search (rules, value.the_lemmas, fold_out-Value ℕ height_at)

pub value_height_Integer : (n : ℤ) → value_height (flat.Integer n) ≡ 1
unfolding value_height
value_height_Integer n = search (rules, value.the_lemmas, fold_out-Value ℕ height_at)

pub value_height_Decimal : (f : Fraction) → value_height (flat.Decimal f) ≡ 1
unfolding value_height
value_height_Decimal f = search (rules, value.the_lemmas, fold_out-Value ℕ height_at)

pub value_height_Money : (n : ℤ) → value_height (flat.Money n) ≡ 1
unfolding value_height
value_height_Money n = search (rules, value.the_lemmas, fold_out-Value ℕ height_at)

pub value_height_Date : (day : ℤ) → value_height (flat.Date day) ≡ 1
unfolding value_height
value_height_Date day = search (rules, value.the_lemmas, fold_out-Value ℕ height_at)

pub value_height_Duration : (span : SpanOf) → value_height (flat.Duration span) ≡ 1
unfolding value_height
value_height_Duration span = search (rules, value.the_lemmas, fold_out-Value ℕ height_at)

pub value_height_List : (vs : List Value) → value_height (value.List vs) ≡ 1 + greatest (map value_height vs)
unfolding value_height
value_height_List vs = search (rules, value.the_lemmas, fold_out-Value ℕ height_at)

pub value_height_Structure : (vs : List Value) → value_height (value.Structure vs) ≡ 1 + greatest (map value_height vs)
unfolding value_height
value_height_Structure vs = search (rules, value.the_lemmas, fold_out-Value ℕ height_at)

pub value_height_Case : (k : ℕ) (content : Option Value) → value_height (value.Case k content) ≡ case_height
    (option_map value_height content)
unfolding value_height
value_height_Case k content = search (rules, value.the_lemmas, fold_out-Value ℕ height_at)

-- where a value has a type that is at most k high, it is no higher than the type
abbrev IsBounded : Decls → Value → Type 0
IsBounded ds v = (k : ℕ) (t : Ty) → IsTrue (has_type ds v t) → height_to ds.structures ds.enumerations k t ≤ k
    → value_height v ≤ height_to ds.structures ds.enumerations k t

flat_bounded : (ds : Decls) (v : Value) → value_height v ≡ 1 → IsBounded ds v
flat_bounded ds v one k t h low = omega (arith, one, height_positive ds.structures ds.enumerations k t)

elements_bounded : (ds : Decls) (k : ℕ) (e : Ty) (vs : List Value) → Each (IsBounded ds) vs
    → IsTrue (all_have_type ds vs e) → height_to ds.structures ds.enumerations k e ≤ k
    → greatest (map value_height vs) ≤ height_to ds.structures ds.enumerations k e
elements_bounded ds k e [] bounded h low = omega arith
elements_bounded ds k e (v ∷ vs) bounded h low =
    let first = bounded.0 k e (grind arith) low in
    let rest = elements_bounded ds k e vs bounded.1 (grind arith) low in
    omega arith

fields_bounded : (ds : Decls) (k : ℕ) (vs : List Value) (fs : List Field) → Each (IsBounded ds) vs
    → IsTrue (fields_have_types ds vs fs)
    → highest_field (height_to ds.structures ds.enumerations k) fs ≤ k → greatest (map value_height vs) ≤ highest_field
    (height_to ds.structures ds.enumerations k) fs
fields_bounded ds k [] [] bounded h low = omega arith
fields_bounded ds k [] (f ∷ fs) bounded h low = omega arith
fields_bounded ds k (v ∷ vs) [] bounded h low = absurd (true≢false (sym h))
fields_bounded ds k (v ∷ vs) (f ∷ fs) bounded h low =
    let first = bounded.0 k f.ty (grind arith) (omega arith) in
    let rest = fields_bounded ds k vs fs bounded.1 (grind arith) (omega arith) in
    omega arith

list_bounded : (ds : Decls) (vs : List Value) → Each (IsBounded ds) vs → IsBounded ds (value.List vs)
list_bounded ds vs bounded zero t h low = absurd (omega (arith, height_positive ds.structures ds.enumerations zero t))
list_bounded ds vs bounded (suc k) t h low = let w = list_of ds vs t h in by w.0 w.1 w.2
  where
    by : (e : Ty) → t ≡ ty.List e → IsTrue (elements_typed ds vs e) → value_height (value.List vs) ≤ height_to
        ds.structures ds.enumerations (suc k) t
    by e is typed =
        let step : height_to ds.structures ds.enumerations (suc k) t ≡ 1 + height_to ds.structures ds.enumerations k e =
        rw is (height_List ds.structures ds.enumerations k e) in
        let rest = elements_bounded ds k e vs bounded (grind arith) (omega arith) in
        omega (arith, value_height_List vs)

structure_bounded : (ds : Decls) (vs : List Value) → Each (IsBounded ds) vs → IsBounded ds (value.Structure vs)
structure_bounded ds vs bounded zero t h low =
    absurd (omega (arith, height_positive ds.structures ds.enumerations zero t))
structure_bounded ds vs bounded (suc k) t h low = let w =
    structure_of ds vs t h in by w.0 w.1 (slice_get ds.structures w.0) refl w.2
  where
    by : (n : ℕ) → t ≡ flat_ty.Structure n → (s : Option Structure) → slice_get ds.structures n ≡ s
        → IsTrue (some_passes (fields_have_types ds vs) (fields_in s))
        → value_height (value.Structure vs) ≤ height_to ds.structures ds.enumerations (suc k) t
    by n is None e typed = absurd (true≢false (sym typed))
    by n is (Some s) e typed =
        let step : height_to ds.structures ds.enumerations (suc k) t ≡ 1 + highest_field
        (height_to ds.structures ds.enumerations k) s.fields =
        rw is (height_Structure ds.structures ds.enumerations k n s e) in
        let rest = fields_bounded ds k vs s.fields bounded typed (omega arith) in
        omega (arith, value_height_Structure vs)

-- a content of a case is no higher than the highest
content_at : (height : Ty → ℕ) (cs : List Case) (n : ℕ) (c : Case) → slice_get cs n ≡ Some c
    → content_height height c.content ≤ highest_content height cs
content_at height [] n c e = grind arith
content_at height (x ∷ xs) zero c e = grind arith
content_at height (x ∷ xs) (suc n) c e = let rest = content_at height xs n c e in omega arith

content_bounded : (ds : Decls) (k : ℕ) (content : Option Value) (wanted : Option Ty) → Within (IsBounded ds) content
    → IsTrue (content_has_type ds content wanted)
    → content_height (height_to ds.structures ds.enumerations k) wanted ≤ k
    → case_height (option_map value_height content) ≤ 1 + content_height (height_to ds.structures ds.enumerations k)
    wanted
content_bounded ds k None None bounded h low = omega arith
content_bounded ds k None (Some t) bounded h low = absurd (true≢false (sym h))
content_bounded ds k (Some v) None bounded h low = absurd (true≢false (sym h))
content_bounded ds k (Some v) (Some t) bounded h low = let part = bounded k t h low in omega arith

case_bounded : (ds : Decls) (case : ℕ) (content : Option Value) → Within (IsBounded ds) content
    → IsBounded ds (value.Case case content)
case_bounded ds case content bounded zero t h low =
    absurd (omega (arith, height_positive ds.structures ds.enumerations zero t))
case_bounded ds case content bounded (suc k) t h low = let w =
    case_of ds case content t h in by w.0 w.1 (slice_get ds.enumerations w.0) refl w.2
  where
    at : (n : ℕ) → t ≡ flat_ty.Enumeration n → (d : Enumeration) → slice_get ds.enumerations n ≡ Some d
        → (c : Option Case) → slice_get d.cases case ≡ c
        → IsTrue (some_passes (content_has_type ds content) (content_in c)) → value_height (value.Case case content) ≤
        height_to ds.structures ds.enumerations (suc k) t
    at n is d e None f typed = absurd (true≢false (sym typed))
    at n is d e (Some c) f typed =
        let step : height_to ds.structures ds.enumerations (suc k) t ≡ 1 + highest_content
        (height_to ds.structures ds.enumerations k) d.cases =
        rw is (height_Enumeration ds.structures ds.enumerations k n d e) in
        let within = content_at (height_to ds.structures ds.enumerations k) d.cases case c f in
        let rest = content_bounded ds k content c.content bounded typed (omega arith) in
        omega (arith, value_height_Case case content)

    by : (n : ℕ) → t ≡ flat_ty.Enumeration n → (d : Option Enumeration) → slice_get ds.enumerations n ≡ d
        → IsTrue (some_passes (content_has_type ds content) (case_in case d))
        → value_height (value.Case case content) ≤ height_to ds.structures ds.enumerations (suc k) t
    by n is None e typed = absurd (true≢false (sym typed))
    by n is (Some d) e typed = at n is d e (slice_get d.cases case) refl typed

pub bounded_by_type : (ds : Decls) (v : Value) → IsBounded ds v
bounded_by_type ds =
    value_induction (IsBounded ds)
    (λ b. flat_bounded ds _ (value_height_Boolean b)) (λ n. flat_bounded ds _ (value_height_Integer n))
    (λ f. flat_bounded ds _ (value_height_Decimal f))
    (λ n. flat_bounded ds _ (value_height_Money n)) (λ day. flat_bounded ds _ (value_height_Date day))
    (λ span. flat_bounded ds _ (value_height_Duration span))
    (list_bounded ds) (structure_bounded ds) (case_bounded ds)

pub value_height_bounded : (ds : Decls) (v : Value) (t : Ty) → IsTrue (has_type ds v t) → height_of ds t ≤ highest
    → value_height v ≤ height_of ds t
value_height_bounded ds v t h low = bounded_by_type ds v highest t h low
