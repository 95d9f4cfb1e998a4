-- Lines by their words.
use Rattle.std.proofs.Common.{◌≡◌, ℕ, ◌^◌, ◌<◌, ◌≤◌, Bool, true, false, List, ◌++◌, length, drop, Some, None}
use Rattle.std.proofs.Common.{refl, sym, ap, ◌∙◌, arith, length-append}
use Rattle.std.specs.Prelude.{nat_eq, codes}
use Rattle.std.specs.List.{starts_with}
use Rattle.std.specs.Str.{bytes_eq, is_utf8, IsUtf8}
use Rattle.std.proofs.lemmas.Bool.Decides.{nat_tests, Decides-eqb}
use Rattle.std.proofs.lemmas.List.{append_cancel_left}
use Rattle.std.proofs.lemmas.Slice.Eq.{starts_is, bytes_eq-Decides}
use Rattle.std.proofs.lemmas.Str.{IsUtf8-from_is_utf8}
use Rattle.cat_cert.specs.inside.LineForms.{numbered, name_line}
use Rattle.cat_cert.proofs.LineLemmas.{numbered_read, numbered_written}

not_equal : (b : Bool) → (b ≡ true → ⊥) → b ≡ false
not_equal true no_more = absurd (no_more refl)
not_equal false no_more = refl

pub no_utf8 : (bs : List ℕ) → (IsUtf8 bs → ⊥) → false ≡ is_utf8 bs
no_utf8 bs other = sym (not_equal (is_utf8 bs) (λ is. other (IsUtf8-from_is_utf8 bs is)))

-- ---- names

pub name_found : (line : List ℕ) (m i : ℕ) → i < 2 ^ 64 → numbered (codes "name ") line ≡ Some m
    → nat_eq m i ≡ bytes_eq line (name_line i)
name_found line m i low is = by (nat_eq m i) refl
  where
    by : (same : Bool) → nat_eq m i ≡ same → same ≡ bytes_eq line (name_line i)
    by true at =
        let same : m ≡ i = grind (arith, nat_tests) in
        sym ((bytes_eq-Decides line (name_line i)).1
        ((numbered_read (codes "name ") line m is).0 ∙ ap name_line same))
    by false at =
        sym (not_equal (bytes_eq line (name_line i)) (λ equal.
        let line_is = (bytes_eq-Decides line (name_line i)).0 equal in
        let found : Some m ≡ Some i =
        sym is ∙ ap (numbered (codes "name ")) line_is ∙ numbered_written (codes "name ") i low in
        let same : m ≡ i = cc in
        grind (arith, nat_tests)))

pub no_name : (line : List ℕ) (i : ℕ) → i < 2 ^ 64 → numbered (codes "name ") line ≡ None
    → false ≡ bytes_eq line (name_line i)
no_name line i low none =
    sym (not_equal (bytes_eq line (name_line i)) (λ equal.
    let line_is = (bytes_eq-Decides line (name_line i)).0 equal in
    let found : None ≡ Some i =
    sym none ∙ ap (numbered (codes "name ")) line_is ∙ numbered_written (codes "name ") i low in
    absurd (cc)))

-- ---- a word and a name

pub begun : (line word : List ℕ) → starts_with nat_eq line word ≡ true → line ≡ word ++ drop (length word) line
begun line word is = (starts_is Decides-eqb line word (starts_with nat_eq line word) refl).0 is

pub begun_length : (line word : List ℕ) → starts_with nat_eq line word ≡ true → length word ≤ length line
begun_length line word is =
    let same = ap length (begun line word is) in
    let parts = length-append word (drop (length word) line) in
    omega (arith, same, parts)

pub heading_found : (line word name : List ℕ) → starts_with nat_eq line word ≡ true
    → bytes_eq (drop (length word) line) name ≡ bytes_eq line (word ++ name)
heading_found line word name is = by (bytes_eq (drop (length word) line) name) refl
  where
    by : (same : Bool) → bytes_eq (drop (length word) line) name ≡ same → same ≡ bytes_eq line (word ++ name)
    by true at =
        sym ((bytes_eq-Decides line (word ++ name)).1
        (begun line word is ∙ ap (λ (n : List ℕ). word ++ n) ((bytes_eq-Decides _ name).0 at)))
    by false at =
        sym (not_equal (bytes_eq line (word ++ name)) (λ equal.
        let line_is = (bytes_eq-Decides line (word ++ name)).0 equal in
        let same = append_cancel_left word (drop (length word) line) name (sym (begun line word is) ∙ line_is) in
        let holds = (bytes_eq-Decides (drop (length word) line) name).1 same in
        absurd (cc)))

pub no_heading : (line word name : List ℕ) → starts_with nat_eq line word ≡ false
    → false ≡ bytes_eq line (word ++ name)
no_heading line word name other =
    sym (not_equal (bytes_eq line (word ++ name)) (λ equal.
    let holds = (starts_is Decides-eqb line word (starts_with nat_eq line word) refl).1 name
    ((bytes_eq-Decides line (word ++ name)).0 equal) in
    absurd (cc)))
