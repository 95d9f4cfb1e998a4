-- Lines of a text in UTF-8, and what is read of them, are in UTF-8.
use Rattle.std.proofs.Common.{◌≡◌, ◌<◌, ◌≤◌, ◌+◌, ◌-◌, ℕ, zero, suc, Bool, true, false, List, [], ◌∷◌, ◌++◌, length}
use Rattle.std.proofs.Common.{refl, sym, ap, ◌∙◌, subst, if◌then◌else◌, arith, take, drop, get_or, cond, codes}
use Rattle.std.specs.Prelude.{slice_index}
use Rattle.std.specs.List.{prefix_len, suffix_len}
use Rattle.std.specs.Str.{IsUtf8, IsCharBoundary}
use Rattle.std.proofs.lemmas.Bool.{eqb-true}
use Rattle.std.proofs.lemmas.List.{length-append, length-drop, take-append-drop, take_all}
use Rattle.std.proofs.lemmas.Str.{IsUtf8-take, IsUtf8-drop, IsCharBoundary-start, IsCharBoundary-end}
use Rattle.std.proofs.lemmas.Str.{IsCharBoundary-before_ascii, IsCharBoundary-after_ascii}
use Rattle.std.proofs.lemmas.Slice.Eq.{bytes_eq-Decides}
use Rattle.cat_pos.specs.Bytes.{is_blank}
use Rattle.cat_weave.specs.inside.Reading.{line_length}
use Rattle.cat_weave.specs.Lines.{lines_of, last_is, without_last, without_end, without_last_blanks}
use Rattle.cat_weave.specs.Lines.{without_first_blanks}
use Rattle.cat_weave.specs.Lines.{bare}
use Rattle.cat_weave.specs.Kinds.{is_include}
use Rattle.cat_weave.proofs.LineLemmas.{lines_of_first, line_cut, line_length_some, blank_is_ascii, last_blank_yes}
use Rattle.cat_weave.proofs.LineLemmas.{last_blank_no}
use Rattle.cat_scope.specs.Names.{AllHave}

-- ---- ends

before_last : (text : List ℕ) (byte : ℕ) → byte < 128 → IsUtf8 text → last_is byte text ≡ true
    → IsCharBoundary text (length text - 1)
before_last [] byte low u is = IsCharBoundary-start [] u
before_last (b ∷ bs) byte low u is =
    let same = eqb-true (slice_index (b ∷ bs) (length (b ∷ bs) - 1)) byte is in
    IsCharBoundary-before_ascii (b ∷ bs) (length (b ∷ bs) - 1) (omega arith) (omega (arith, same, low))

last_utf8 : (byte : ℕ) → byte < 128 → (text : List ℕ) → IsUtf8 text → IsUtf8 (without_last byte text)
unfolding without_last
last_utf8 byte low text u = by (last_is byte text) refl
  where
    by : (b : Bool) → last_is byte text ≡ b → IsUtf8 (if b then take (length text - 1) text else text)
    by true is = IsUtf8-take text (length text - 1) u (before_last text byte low u is)
    by false is = u

end_utf8 : (line : List ℕ) → IsUtf8 line → IsUtf8 (without_end line)
unfolding without_end
end_utf8 line u = by (last_is 10 line)
  where
    by : (b : Bool) → IsUtf8 (if b then without_last 13 (without_last 10 line) else line)
    by true = last_utf8 13 (omega arith) (without_last 10 line) (last_utf8 10 (omega arith) line u)
    by false = u

-- ---- blanks

before_blanks : (text : List ℕ) → IsUtf8 text → (n : ℕ) → n ≤ length text → IsCharBoundary text n
    → IsCharBoundary text (n - suffix_len is_blank (take n text))
before_blanks text u zero within cut =
    let none : 0 - suffix_len is_blank (take 0 text) ≡ 0 = omega arith in
    subst (λ m. IsCharBoundary text m) (sym none) (IsCharBoundary-start text u)
before_blanks text u (suc n) within cut =
    by (is_blank (get_or text n 0)) refl (λ c. before_blanks text u n (omega (arith, within)) c)
  where
    at : suc n - 1 ≡ n
    at = omega arith

    by : (b : Bool) → is_blank (get_or text n 0) ≡ b
        → (IsCharBoundary text n → IsCharBoundary text (n - suffix_len is_blank (take n text)))
        → IsCharBoundary text (suc n - suffix_len is_blank (take (suc n) text))
    by true is go =
        let counted = last_blank_yes text (suc n) (omega arith) within
        (ap (λ m. is_blank (get_or text m 0)) at ∙ is) in
        let fewer = ap (λ m. suffix_len is_blank (take m text)) at in
        let same : suc n - suffix_len is_blank (take (suc n) text) ≡ n - suffix_len is_blank (take n text) =
        omega (arith, counted, fewer) in
        subst (λ m. IsCharBoundary text m) (sym same)
        (go (IsCharBoundary-before_ascii text n (omega (arith, within)) (blank_is_ascii (get_or text n 0) is)))
    by false is go =
        let none = last_blank_no text (suc n) (omega arith) within
        (ap (λ m. is_blank (get_or text m 0)) at ∙ is) in
        let same : suc n - suffix_len is_blank (take (suc n) text) ≡ suc n = omega (arith, none) in
        subst (λ m. IsCharBoundary text m) (sym same) cut

pub bare_utf8 : (line : List ℕ) → IsUtf8 line → IsUtf8 (bare line)
unfolding without_last_blanks
bare_utf8 line u =
    let text = without_end line in
    let own = end_utf8 line u in
    let all : take (length text) text ≡ text = take_all (length text) text (omega arith) in
    IsUtf8-take text (length text - suffix_len is_blank text) own
    (subst (λ t. IsCharBoundary text (length text - suffix_len is_blank t)) all
    (before_blanks text own (length text) (omega arith) (IsCharBoundary-end text)))

one_more : (k : ℕ) → 1 + k ≡ suc k
one_more k = omega arith

first_utf8 : (text : List ℕ) → IsUtf8 text → IsUtf8 (drop (prefix_len is_blank text) text)
first_utf8 [] u = u
first_utf8 (b ∷ bs) u = by (is_blank b) refl (λ v. first_utf8 bs v)
  where
    by : (c : Bool) → is_blank b ≡ c → (IsUtf8 bs → IsUtf8 (drop (prefix_len is_blank bs) bs))
        → IsUtf8 (drop (cond c (1 + prefix_len is_blank bs) 0) (b ∷ bs))
    by true is go =
        subst (λ m. IsUtf8 (drop m (b ∷ bs))) (sym (one_more (prefix_len is_blank bs)))
        (go (IsUtf8-drop (b ∷ bs) 1 u
        (IsCharBoundary-after_ascii (b ∷ bs) 0 u (omega arith) (blank_is_ascii b is))))
    by false is go = u

-- ---- includes

sign_cut : (rest : List ℕ) → IsUtf8 (codes "> Include: " ++ rest) → IsCharBoundary (codes "> Include: " ++ rest) 11
sign_cut rest u =
    IsCharBoundary-after_ascii (codes "> Include: " ++ rest) 10 u
    (omega (arith, length-append (codes "> Include: ") rest)) (omega arith)

pub include_utf8 : (line : List ℕ) → is_include line ≡ true → IsUtf8 line
    → IsUtf8 (without_first_blanks (drop 11 line))
unfolding without_first_blanks
include_utf8 line is u =
    let sign = (bytes_eq-Decides (codes "> Include: ") (take 11 line)).0 is in
    let parted : codes "> Include: " ++ drop 11 line ≡ line =
    ap (λ (t : List ℕ). t ++ drop 11 line) sign ∙ take-append-drop 11 line in
    let cut = subst (λ (t : List ℕ). IsCharBoundary t 11) parted
    (sign_cut (drop 11 line) (subst IsUtf8 (sym parted) u)) in
    first_utf8 (drop 11 line) (IsUtf8-drop line 11 u cut)

-- ---- lines

pub lines_utf8 : (n : ℕ) (text : List ℕ) → length text ≤ n → IsUtf8 text → AllHave IsUtf8 (lines_of text)
unfolding lines_of
lines_utf8 n [] short u = tt
lines_utf8 zero (b ∷ bs) short u = absurd (omega (arith, short))
lines_utf8 (suc n) (b ∷ bs) short u =
    let text = b ∷ bs in
    let k = line_length text in
    let some = line_length_some text (omega arith) in
    let long = length-drop k text in
    let cut = line_cut text u in
    subst (AllHave IsUtf8) (sym (lines_of_first text (omega arith)))
    (IsUtf8-take text k u cut, lines_utf8 n (drop k text) (omega (arith, short, some, long)) (IsUtf8-drop text k u cut))
