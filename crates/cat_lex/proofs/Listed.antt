-- What is looked up is in the table.
use Rattle.std.proofs.Common.{◌≡◌, ℕ, Bool, true, false, not, ◌&&◌, ◌==◌, cond, List, [], ◌∷◌, refl, ap, ◌∙◌}
use Rattle.std.specs.Prelude.{Some, bytes_eq}
use Rattle.std.specs.Char.{is_ascii_digit, is_ascii_lowercase}
use Rattle.std.specs.List.{list_all}
use Rattle.std.proofs.lemmas.Slice.Eq.{bytes_eq-Decides}
use Rattle.cat_lex.specs.Gaps.{is_white_space}
use Rattle.cat_lex.specs.Words.{look_up, look_up_pair, symbols, double_keywords}
use Rattle.cat_lex.specs.inside.Reading.{is_word_byte}
use Rattle.cat_lex.proofs.Skips.{and_left, and_right}

abbrev pub fit : {K : Type 0} → (List ℕ → Bool) → List (List ℕ × K) → Bool
fit P [] = true
fit P (entry ∷ entries) = P entry.0 && fit P entries

found_by : {K : Type 0} (P : List ℕ → Bool) (entry : List ℕ × K) (entries : List (List ℕ × K)) (text : List ℕ) (k : K)
    (b : Bool) → bytes_eq text entry.0 ≡ b
    → cond b (Some entry.1) (look_up entries text) ≡ Some k → P entry.0 ≡ true
    → (look_up entries text ≡ Some k → P text ≡ true) → P text ≡ true
found_by P entry entries text k true same h p more = ap P ((bytes_eq-Decides text entry.0).0 same) ∙ p
found_by P entry entries text k false same h p more = more h

pub found : {K : Type 0} (P : List ℕ → Bool) (entries : List (List ℕ × K)) (text : List ℕ) (k : K)
    → fit P entries ≡ true → look_up entries text ≡ Some k → P text ≡ true
found P [] text k all h = cc
found P (entry ∷ entries) text k all h = found_by P entry entries text k (bytes_eq text entry.0) refl h
    (and_left _ _ all) (found P entries text k (and_right _ _ all))

abbrev pub fit_pair : {K : Type 0} → (List ℕ → Bool) → List (List ℕ × List ℕ × K) → Bool
fit_pair P [] = true
fit_pair P (entry ∷ entries) = (P entry.0 && P entry.1) && fit_pair P entries

found_pair_by : {K : Type 0} (P : List ℕ → Bool) (entry : List ℕ × List ℕ × K) (entries : List (List ℕ × List ℕ × K))
    (first second : List ℕ) (k : K) (b : Bool) → (bytes_eq first entry.0 && bytes_eq second entry.1) ≡ b
    → cond b (Some entry.2) (look_up_pair entries first second) ≡ Some k → (P entry.0 && P entry.1) ≡ true
    → (look_up_pair entries first second ≡ Some k → (P first && P second) ≡ true) → (P first && P second) ≡ true
found_pair_by P entry entries first second k true same h p more =
    let one : first ≡ entry.0 = (bytes_eq-Decides first entry.0).0 (and_left _ _ same) in
    let other : second ≡ entry.1 = (bytes_eq-Decides second entry.1).0 (and_right _ _ same) in
    rw (one, other) p
found_pair_by P entry entries first second k false same h p more = more h

pub found_pair : {K : Type 0} (P : List ℕ → Bool) (entries : List (List ℕ × List ℕ × K)) (first second : List ℕ) (k : K)
    → fit_pair P entries ≡ true → look_up_pair entries first second ≡ Some k → (P first && P second) ≡ true
found_pair P [] first second k all h = cc
found_pair P (entry ∷ entries) first second k all h =
    found_pair_by P entry entries first second k (bytes_eq first entry.0 && bytes_eq second entry.1) refl h
    (and_left _ _ all) (found_pair P entries first second k (and_right _ _ all))

-- a byte that begins nothing but a symbol
abbrev pub is_mark_byte : ℕ → Bool
is_mark_byte c = not (is_word_byte c) && not (is_ascii_digit c) && not (c == 36) && not (c == 124)
    && not (is_white_space c)
    && not (c == 35)

abbrev pub is_mark_text : List ℕ → Bool
is_mark_text [] = false
is_mark_text (c ∷ []) = is_mark_byte c
is_mark_text (c ∷ d ∷ []) = is_mark_byte c
is_mark_text (c ∷ d ∷ e ∷ cs) = false

pub symbols_fit : fit is_mark_text symbols ≡ true
unfolding symbols
symbols_fit = refl

-- the words of double keywords have small letters alone
abbrev pub is_small_word : List ℕ → Bool
is_small_word [] = false
is_small_word (c ∷ cs) = list_all is_ascii_lowercase (c ∷ cs)

pub double_keywords_fit : fit_pair is_small_word double_keywords ≡ true
unfolding double_keywords
double_keywords_fit = refl
