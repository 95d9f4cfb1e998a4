-- Lines, their lengths and where they may be cut.
use Rattle.std.proofs.Common.{◌≡◌, ◌∙◌, subst, ℕ, zero, suc, ◌+◌, ◌-◌, ◌<◌, ◌≤◌, true, false, cond, ◌&&◌, eqb}
use Rattle.std.proofs.Common.{leb, List, [], ◌∷◌, length, take, drop, get_or, refl, arith, inl, inr, ◌⊎◌, ⊎_elim}
use Rattle.std.proofs.Common.{add-one}
use Rattle.std.proofs.lemmas.Bool.{eqb-true, leb-true, false≢true, or_cases, and_parts, cases_lt}
use Rattle.std.proofs.lemmas.List.{drop_more}
use Rattle.std.proofs.lemmas.List.Sums.{prefix_len-drop_yes, prefix_len-drop_no, prefix_len-drop_all}
use Rattle.std.proofs.lemmas.List.Sums.{suffix_len-take_yes, suffix_len-take_no}
use Rattle.std.proofs.lemmas.Str.{IsCharBoundary-end, IsCharBoundary-after_ascii}
use Rattle.std.specs.List.{prefix_len, suffix_len}
use Rattle.std.specs.Str.{IsUtf8, IsCharBoundary}
use Rattle.cat_pos.specs.Position.{is_line_feed}
use Rattle.cat_pos.specs.Bytes.{is_blank}
use Rattle.cat_weave.specs.Lines.{lines_of, in_front}
use Rattle.cat_weave.specs.Kinds.{is_hash}
use Rattle.cat_weave.specs.inside.Reading.{line_length}

-- how long the first line is, by its bytes
pub line_length_feed : (text : List ℕ) (i : ℕ) → i < length text → is_line_feed (get_or text i 0) ≡ true →
    line_length (drop i text) ≡ 1
line_length_feed text i inside feed = rw (drop_more text i 0 inside, feed) refl

pub line_length_other : (text : List ℕ) (i : ℕ) → i < length text → is_line_feed (get_or text i 0) ≡ false →
    line_length (drop i text) ≡ line_length (drop (i + 1) text) + 1
line_length_other text i inside other = rw (drop_more text i 0 inside, other) refl

pub ruleset lengths = (line_length_feed, line_length_other)

pub line_length-le-length : (text : List ℕ) → line_length text ≤ length text
line_length-le-length [] = omega arith
line_length-le-length (byte ∷ text) =
    let rest = line_length-le-length text in
    elim (is_line_feed byte) as (λ v. cond v 1 (line_length text + 1) ≤ suc (length text)) [
      | true ↦ omega arith
      | false ↦ omega arith
    ]

pub line_length_some : (text : List ℕ) → 0 < length text → 0 < line_length text
line_length_some [] some = absurd (omega arith)
line_length_some (byte ∷ text) some =
    elim (is_line_feed byte) as (λ v. 0 < cond v 1 (line_length text + 1)) [ true ↦ omega arith | false ↦ omega arith ]

-- the first line of a text, and the others
lines_of_none : lines_of [] ≡ []
unfolding lines_of
lines_of_none = refl

in_front_is : (byte n : ℕ) (text : List ℕ) (lines : List (List ℕ)) → lines ≡ take n text ∷ lines_of (drop n text)
    → in_front byte lines ≡ take (n + 1) (byte ∷ text) ∷ lines_of (drop (n + 1) (byte ∷ text))
in_front_is byte n text lines is = rw (is, add-one n) refl

in_front_of_lines : (byte : ℕ) (text : List ℕ) →
    (0 < length text → lines_of text ≡ take (line_length text) text ∷ lines_of (drop (line_length text) text))
    → in_front byte (lines_of text) ≡ take (line_length text + 1) (byte ∷ text) ∷ lines_of
    (drop (line_length text + 1) (byte ∷ text))
in_front_of_lines byte [] first = rw lines_of_none refl
in_front_of_lines byte (c ∷ text) first =
    in_front_is byte (line_length (c ∷ text)) (c ∷ text) (lines_of (c ∷ text)) (first (omega arith))

pub lines_of_first : (text : List ℕ) → 0 < length text →
    lines_of text ≡ take (line_length text) text ∷ lines_of (drop (line_length text) text)
unfolding lines_of
lines_of_first [] some = absurd (omega arith)
lines_of_first (byte ∷ text) some =
    let others = in_front_of_lines byte text (lines_of_first text) in
    elim (is_line_feed byte) as (λ v. cond v ((byte ∷ []) ∷ lines_of text) (in_front byte (lines_of text)) ≡ take
    (cond v 1 (line_length text + 1)) (byte ∷ text) ∷ lines_of
    (drop (cond v 1 (line_length text + 1)) (byte ∷ text)))
    [ true ↦ refl | false ↦ others ]

-- a line ends the text, or in a line feed
get_or_later : (byte n : ℕ) (text : List ℕ) → 0 < n → get_or (byte ∷ text) n 0 ≡ get_or text (n - 1) 0
get_or_later byte zero text some = absurd (omega arith)
get_or_later byte (suc n) text some = let same : suc n - 1 ≡ n = omega arith in rw same refl

line_end : (text : List ℕ) →
    (line_length text ≡ length text) ⊎ ((0 < line_length text) × (get_or text (line_length text - 1) 0 ≡ 10))
line_end [] = inl refl
line_end (byte ∷ text) =
    elim (is_line_feed byte) as (λ v. is_line_feed byte ≡ v →
    (cond v 1 (line_length text + 1) ≡ suc (length text)) ⊎
    ((0 < cond v 1 (line_length text + 1)) × (get_or (byte ∷ text) (cond v 1 (line_length text + 1) - 1) 0 ≡ 10))) [
      | true ↦ (λ feed. inr (omega arith, eqb-true byte 10 feed))
      | false ↦ (λ other. ⊎_elim (λ all. inl (omega arith))
          (λ at. let same : line_length text + 1 - 1 ≡ line_length text = omega arith in inr
          (omega arith, rw same (get_or_later byte (line_length text) text at.0 ∙ at.1)))
          (line_end text))
    ] refl

pub line_cut : (text : List ℕ) → IsUtf8 text → IsCharBoundary text (line_length text)
line_cut text utf8 =
    let short = line_length-le-length text in
    ⊎_elim (λ all. rw all (IsCharBoundary-end text))
    (λ at. let same : line_length text - 1 + 1 ≡ line_length text = omega (arith, at.0) in
    let last = at.1 in
    rw same at (IsCharBoundary-after_ascii text (line_length text - 1) utf8 (omega (arith, at.0))
    (omega (arith, last))))
    (line_end text)

-- blanks
pub blank_is_ascii : (byte : ℕ) → is_blank byte ≡ true → byte < 128
blank_is_ascii byte blank =
    ⊎_elim (λ space. omega (arith, eqb-true byte 32 space)) (λ tab. omega (arith, eqb-true byte 9 tab))
    (or_cases (eqb byte 32) (eqb byte 9) blank)

pub last_blank_yes : (text : List ℕ) (n : ℕ) → 0 < n → n ≤ length text → is_blank (get_or text (n - 1) 0) ≡ true →
    suffix_len is_blank (take n text) ≡ 1 + suffix_len is_blank (take (n - 1) text)
last_blank_yes text n some within blank = suffix_len-take_yes is_blank text n 0 some within blank

pub last_blank_no : (text : List ℕ) (n : ℕ) → 0 < n → n ≤ length text → is_blank (get_or text (n - 1) 0) ≡ false →
    suffix_len is_blank (take n text) ≡ 0
last_blank_no text n some within other = suffix_len-take_no is_blank text n 0 some within other

pub last_blank_none : (text : List ℕ) → suffix_len is_blank (take 0 text) ≡ 0
last_blank_none text = refl

-- a text may be cut before a blank and at its end
pub cut_before : (text : List ℕ) (n : ℕ) → n ≤ length text → (n < length text → is_blank (get_or text n 0) ≡ true) →
    IsCharBoundary text n
cut_before text n within blank =
    (within, λ inside high. absurd (omega (arith, blank_is_ascii (get_or text n 0) (blank inside))))

pub ruleset last_blanks = (last_blank_yes, last_blank_no, last_blank_none, cut_before)

pub first_blank_yes : (text : List ℕ) (i : ℕ) → i < length text → is_blank (get_or text i 0) ≡ true →
    prefix_len is_blank (drop i text) ≡ 1 + prefix_len is_blank (drop (i + 1) text)
first_blank_yes text i inside blank = prefix_len-drop_yes is_blank text i 0 inside blank

pub first_blank_no : (text : List ℕ) (i : ℕ) → i < length text → is_blank (get_or text i 0) ≡ false →
    prefix_len is_blank (drop i text) ≡ 0
first_blank_no text i inside other = prefix_len-drop_no is_blank text i 0 inside other

pub first_blank_none : (text : List ℕ) (i : ℕ) → length text ≤ i → prefix_len is_blank (drop i text) ≡ 0
first_blank_none text i past = prefix_len-drop_all is_blank text i past

-- a text may be cut after a blank and at its beginning
pub cut_after : (text : List ℕ) (n : ℕ) → IsUtf8 text → n ≤ length text →
    (0 < n → is_blank (get_or text (n - 1) 0) ≡ true) → 0 < n → IsCharBoundary text n
cut_after text n utf8 within blank some =
    let same : n - 1 + 1 ≡ n = omega arith in
    rw same at (IsCharBoundary-after_ascii text (n - 1) utf8 (omega arith)
    (blank_is_ascii (get_or text (n - 1) 0) (blank some)))

pub ruleset first_blanks = (first_blank_yes, first_blank_no, first_blank_none, cut_after)

-- headings
pub hash_yes : (text : List ℕ) (i : ℕ) → i < length text → is_hash (get_or text i 0) ≡ true →
    prefix_len is_hash (drop i text) ≡ 1 + prefix_len is_hash (drop (i + 1) text)
hash_yes text i inside hash = prefix_len-drop_yes is_hash text i 0 inside hash

pub hash_no : (text : List ℕ) (i : ℕ) → i < length text → is_hash (get_or text i 0) ≡ false →
    prefix_len is_hash (drop i text) ≡ 0
hash_no text i inside other = prefix_len-drop_no is_hash text i 0 inside other

pub hash_none : (text : List ℕ) (i : ℕ) → length text ≤ i → prefix_len is_hash (drop i text) ≡ 0
hash_none text i past = prefix_len-drop_all is_hash text i past

pub ruleset levels = (hash_yes, hash_no, hash_none)

get_or_past : (text : List ℕ) (i : ℕ) → length text ≤ i → get_or text i 0 ≡ 0
get_or_past [] i past = refl
get_or_past (byte ∷ text) zero past = absurd (omega arith)
get_or_past (byte ∷ text) (suc i) past = get_or_past text i (omega arith)

heading_blank : (line : List ℕ) (level : ℕ) →
    (leb 1 level && (leb level 6 && is_blank (get_or line level 0))) ≡ true → is_blank (get_or line level 0) ≡ true
heading_blank line level test =
    (and_parts (leb level 6) (is_blank (get_or line level 0)) (and_parts (leb 1 level) _ test).1).1

heading_inside : (line : List ℕ) (level : ℕ) → is_blank (get_or line level 0) ≡ true → level < length line
heading_inside line level blank =
    ⊎_elim (λ inside. inside) (λ past. absurd (false≢true (subst (λ b. is_blank b ≡ true)
    (get_or_past line level past) blank))) (cases_lt level (length line))

pub heading_cut : (line : List ℕ) (level : ℕ) → IsUtf8 line →
    (leb 1 level && (leb level 6 && is_blank (get_or line level 0))) ≡ true → IsCharBoundary line (level + 1)
heading_cut line level utf8 test =
    let blank = heading_blank line level test in
    IsCharBoundary-after_ascii line level utf8 (heading_inside line level blank)
    (blank_is_ascii (get_or line level 0) blank)

pub heading_low : (line : List ℕ) (level : ℕ) →
    (leb 1 level && (leb level 6 && is_blank (get_or line level 0))) ≡ true → level ≤ 6
heading_low line level test =
    leb-true level 6 ((and_parts (leb level 6) (is_blank (get_or line level 0)) (and_parts (leb 1 level) _ test).1).0)
