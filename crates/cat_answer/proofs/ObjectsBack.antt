-- Objects that are written member by member: what is found in them, and that no key of theirs is unknown.
use Rattle.std.proofs.Common.{◌≡◌, ◌≢◌, ℕ, zero, suc, ◌+◌, Bool, true, false, true≢false, IsTrue, not, ◌&&◌, List, []}
use Rattle.std.proofs.Common.{◌∷◌}
use Rattle.std.proofs.Common.{Option, Some, None, bytes_eq, if◌then◌else◌, slice_get, Ordering, Less, Equal, Greater}
use Rattle.std.proofs.Common.{refl}
use Rattle.std.proofs.Common.{sym, ap, ◌∙◌, arith}
use Rattle.std.specs.Ordering.{nat_cmp, match_ordering}
use Rattle.std.specs.Cmp.Lexicographic.{slice_cmp}
use Rattle.std.proofs.lemmas.Slice.Eq.{bytes_eq-Decides}
use Rattle.serde_json.specs.Data.{Data, Members, no_members, member, put}
use Rattle.serde_json.specs.Find.{get_member}
use Rattle.serde_json.proofs.Views.{get_member-put_other}
use Rattle.cat_value.specs.declared.ty.Ty.{Ty}
use Rattle.cat_value.specs.declared.declaration.Case.{Case}
use Rattle.cat_json.specs.Keys.{is_among, unknown_key}
use Rattle.cat_json.specs.Names.{are_distinct, case_names}
use Rattle.cat_json.specs.Reads.{case_named}

pub same_name : (name : List ℕ) → bytes_eq name name ≡ true
same_name name = (bytes_eq-Decides name name).1 refl

-- names of which only one is among some are different
pub apart : (names : List (List ℕ)) (a b : List ℕ) → is_among names a ≡ false → is_among names b ≡ true → a ≢ b
apart names a b h k e = true≢false (sym k ∙ ap (is_among names) (sym e) ∙ h)

-- a name that is not among some is another than the first, and is not among the rest
pub not_among : (first : List ℕ) (names : List (List ℕ)) (name : List ℕ) → is_among (first ∷ names) name ≡ false
    → (name ≢ first) × (is_among names name ≡ false)
not_among first names name h = by (bytes_eq first name) refl h
  where
    by : (b : Bool) → bytes_eq first name ≡ b → (if b then true else is_among names name) ≡ false
        → (name ≢ first) × (is_among names name ≡ false)
    by true e h = absurd (true≢false h)
    by false e h = (λ same. true≢false (sym (same_name first) ∙ ap (bytes_eq first) (sym same) ∙ e), h)

-- the first of some distinct names is not among the rest, which are distinct
pub distinct-first : (name : List ℕ) (names : List (List ℕ)) → IsTrue (are_distinct (name ∷ names))
    → (is_among names name ≡ false) × IsTrue (are_distinct names)
distinct-first name names h = by (is_among names name) refl h
  where
    by : (b : Bool) → is_among names name ≡ b → IsTrue (not b && are_distinct names)
        → (is_among names name ≡ false) × IsTrue (are_distinct names)
    by true e h = absurd (true≢false (sym h))
    by false e h = (e, h)

-- each of some names is known
abbrev pub AreKnown : (List ℕ → Bool) → List (List ℕ) → Type 0
AreKnown known [] = Unit {0}
AreKnown known (name ∷ names) = (known name ≡ true) × AreKnown known names

among-more : (first : List ℕ) (all names : List (List ℕ)) → AreKnown (is_among all) names
    → AreKnown (is_among (first ∷ all)) names
among-more first all [] h = tt
among-more first all (name ∷ names) h = (by (bytes_eq first name) h.0, among-more first all names h.1)
  where
    by : (b : Bool) → is_among all name ≡ true → (if b then true else is_among all name) ≡ true
    by true e = refl
    by false e = e

-- names are among themselves
pub among_themselves : (names : List (List ℕ)) → AreKnown (is_among names) names
among_themselves [] = tt
among_themselves (name ∷ names) =
    (rw (same_name name) refl, among-more name names names (among_themselves names))

-- a known key more
pub unknown_key-put : (known : List ℕ → Bool) (key : List ℕ) (d : Data) (ms : Members) → known key ≡ true
    → unknown_key known ms ≡ None → unknown_key known (put key d ms) ≡ None
unknown_key-put known key d no_members is none = rw is refl
unknown_key-put known key d (member k e ms) is none = first (known k) refl none (unknown_key-put known key d ms is)
  where
    by : (o : Ordering) → known k ≡ true → unknown_key known ms ≡ None → unknown_key known (put key d ms) ≡ None
        → unknown_key known (match_ordering o (member key d (member k e ms)) (member k d ms)
        (member k e (put key d ms)))
        ≡ None
    by Less here rest more = rw (is, here) rest
    by Equal here rest more = rw here rest
    by Greater here rest more = rw here more

    first : (b : Bool) → known k ≡ b → (if b then unknown_key known ms else Some k) ≡ None
        → (unknown_key known ms ≡ None → unknown_key known (put key d ms) ≡ None)
        → unknown_key known (put key d (member k e ms)) ≡ None
    first true here rest more = by (slice_cmp nat_cmp key k) here rest (more rest)
    first false here rest more = absurd (cc)

-- no member has any of some names
abbrev pub AreAbsent : Members → List (List ℕ) → Type 0
AreAbsent ms [] = Unit {0}
AreAbsent ms (name ∷ names) = (get_member name ms ≡ None) × AreAbsent ms names

pub absent_anywhere : (names : List (List ℕ)) → AreAbsent no_members names
absent_anywhere [] = tt
absent_anywhere (name ∷ names) = (refl, absent_anywhere names)

-- a member of another name more
pub AreAbsent-put : (names : List (List ℕ)) (key : List ℕ) (d : Data) (ms : Members) → is_among names key ≡ false
    → AreAbsent ms names → AreAbsent (put key d ms) names
AreAbsent-put [] key d ms other h = tt
AreAbsent-put (name ∷ names) key d ms other h =
    let differ = not_among name names key other in
    (get_member-put_other name key d ms (λ e. differ.0 (sym e)) ∙ h.0, AreAbsent-put names key d ms differ.1 h.1)

-- the case of that number is one of the cases
case_names-among : (cs : List Case) (k : ℕ) (c : Case) → slice_get cs k ≡ Some c → is_among (case_names cs) c.name
    ≡ true
case_names-among [] k c e = absurd (cc)
case_names-among (x ∷ cs) zero c e = let same : x ≡ c = cc in rw (same, same_name c.name) refl
case_names-among (x ∷ cs) (suc k) c e = by (bytes_eq x.name c.name) (case_names-among cs k c e)
  where
    by : (b : Bool) → is_among (case_names cs) c.name ≡ true → (if b then true else is_among (case_names cs) c.name)
        ≡ true
    by true h = refl
    by false h = h

other_name : (a b : List ℕ) → a ≢ b → bytes_eq a b ≡ false
other_name a b h = by (bytes_eq a b) refl
  where
    by : (t : Bool) → bytes_eq a b ≡ t → t ≡ false
    by true e = absurd (h ((bytes_eq-Decides a b).0 e))
    by false e = refl

abbrev numbered : Case → ℕ → Option (ℕ × Option Ty)
numbered c n = Some (n, c.content)

case_named-found : (j k : ℕ) (cs : List Case) (c : Case) → slice_get cs k ≡ Some c
    → IsTrue (are_distinct (case_names cs)) → case_named j c.name cs ≡ Some (j + k, c.content)
case_named-found j k [] c e h = absurd (cc)
case_named-found j zero (x ∷ cs) c e h = let same : x ≡ c =
    cc in rw (same, same_name c.name) (ap (numbered c) (omega arith))
case_named-found j (suc k) (x ∷ cs) c e h =
    let rest = distinct-first x.name (case_names cs) h in
    let other = apart (case_names cs) x.name c.name rest.0 (case_names-among cs k c e) in
    rw (other_name c.name x.name (λ same. other (sym same)))
    (case_named-found (suc j) k cs c e rest.1 ∙ ap (numbered c) (omega arith))

-- the first case of that name is the one of that number
pub case_named-first : (k : ℕ) (cs : List Case) (c : Case) → slice_get cs k ≡ Some c
    → IsTrue (are_distinct (case_names cs)) → case_named 0 c.name cs ≡ Some (k, c.content)
case_named-first k cs c e h = case_named-found 0 k cs c e h ∙ ap (numbered c) (omega arith)
