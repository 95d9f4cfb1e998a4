-- Each case stands at its number among all cases.
use Rattle.std.proofs.Common.{◌≡◌, ℕ, zero, suc, ◌+◌, ◌<◌, true, false, List, [], ◌∷◌, ◌++◌, length, Option, Some, None}
use Rattle.std.proofs.Common.{refl, sym, ap, ◌∙◌, subst, arith, slice_get}
use Rattle.std.proofs.lemmas.Option.{slice_get_within}
use Rattle.cat_value.specs.declared.ty.Ty.{Ty}
use Rattle.cat_value.specs.declared.declaration.Case.{Case}
use Rattle.cat_value.specs.declared.declaration.Enumeration.{Enumeration}
use Rattle.cat_value.specs.declared.decls.Decls.{Decls}
use Rattle.cat_value.specs.Entries.{content_in, content_of}
use Rattle.cat_scope.specs.Fitting.{has_case}
use Rattle.cat_code.specs.declared.code.CasePlace.{CasePlace}
use Rattle.cat_code.specs.Places.{places_in, case_places}
use Rattle.cat_lower.specs.Pieces.{cases_before}
use Rattle.cat_lower.proofs.DoingRows.{front_read, back_read}

-- a case of an enumeration
abbrev pub place : ℕ → ℕ → Option CasePlace
place n k = Some (record { enumeration = n; case = k })

length_places : (n j : ℕ) (cs : List Case) → length (places_in n j cs) ≡ length cs
length_places n j [] = refl
length_places n j (c ∷ cs) = let e = length_places n (j + 1) cs in omega arith

places_read : (n j k : ℕ) (cs : List Case) → k < length cs → slice_get (places_in n j cs) k ≡ place n (j + k)
places_read n j k [] less = absurd (omega arith)
places_read n j zero (c ∷ cs) less =
    let e : j ≡ j + 0 = omega arith in ap (λ (m : ℕ). place n m) e
places_read n j (suc k) (c ∷ cs) less =
    let e : (j + 1) + k ≡ j + suc k = omega arith in
    places_read n (j + 1) k cs (omega arith) ∙ ap (λ (m : ℕ). place n m) e

-- case k of enumeration n
place_read : (m n k : ℕ) (es : List Enumeration) (e : Enumeration) → slice_get es n ≡ Some e → k < length e.cases
    → slice_get (case_places m es) (cases_before n es + k) ≡ place (m + n) k
place_read m n k [] e is less = absurd (cc is)
place_read m zero k (d ∷ es) e is less =
    let same : d ≡ e = cc is in
    let inside : k < length d.cases = subst (λ (x : Enumeration). k < length x.cases) (sym same) less in
    let size = length_places m 0 d.cases in
    let a : 0 + k ≡ k = omega arith in
    let b : m ≡ m + 0 = omega arith in
    ap (λ i. slice_get (places_in m 0 d.cases ++ case_places (m + 1) es) i) a
    ∙ front_read (places_in m 0 d.cases) (case_places (m + 1) es) k (omega arith)
    ∙ places_read m 0 k d.cases inside
    ∙ ap (λ (i : ℕ). place m i) a
    ∙ ap (λ (i : ℕ). place i k) b
place_read m (suc n) k (d ∷ es) e is less =
    let size = length_places m 0 d.cases in
    let a : (length d.cases + cases_before n es) + k ≡ length (places_in m 0 d.cases) + (cases_before n es + k) =
    omega arith in
    let b : (m + 1) + n ≡ m + suc n = omega arith in
    back_read (places_in m 0 d.cases) (case_places (m + 1) es) ((length d.cases + cases_before n es) + k)
    (cases_before n es + k) a
    ∙ place_read (m + 1) n k es e is less
    ∙ ap (λ (i : ℕ). place i k) b

-- a case that is declared
pub case_stands : (ds : Decls) (n k : ℕ) (content : Option Ty) → content_of ds n k ≡ Some content
    → slice_get (case_places 0 ds.enumerations) (cases_before n ds.enumerations + k) ≡ place n k
case_stands ds n k content is = by (slice_get ds.enumerations n) refl
  where
    inner : (e : Enumeration) → slice_get ds.enumerations n ≡ Some e → (o : Option Case) → slice_get e.cases k ≡ o
        → content_in o ≡ Some content
        → slice_get (case_places 0 ds.enumerations) (cases_before n ds.enumerations + k) ≡ place n k
    inner e there None at told = absurd (cc told)
    inner e there (Some c) at told =
        let z : 0 + n ≡ n = omega arith in
        place_read 0 n k ds.enumerations e there (slice_get_within e.cases k c at)
        ∙ ap (λ (i : ℕ). place i k) z

    by : (o : Option Enumeration) → slice_get ds.enumerations n ≡ o
        → slice_get (case_places 0 ds.enumerations) (cases_before n ds.enumerations + k) ≡ place n k
    by None there = let told : None ≡ Some content = rw there at is in absurd (cc told)
    by (Some e) there =
        let told : content_in (slice_get e.cases k) ≡ Some content = rw there at is in
        inner e there (slice_get e.cases k) refl told

-- the same of a case that a test names
pub tested_stands : (ds : Decls) (n k : ℕ) → has_case ds n k ≡ true
    → slice_get (case_places 0 ds.enumerations) (cases_before n ds.enumerations + k) ≡ place n k
tested_stands ds n k is = by (content_of ds n k) refl
  where
    by : (o : Option (Option Ty)) → content_of ds n k ≡ o
        → slice_get (case_places 0 ds.enumerations) (cases_before n ds.enumerations + k) ≡ place n k
    by None there = let told : false ≡ true = rw there at is in absurd (cc told)
    by (Some content) there = case_stands ds n k content there
