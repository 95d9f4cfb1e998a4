-- Words and double keywords: what is read has its form, and goes as far as any word that begins there.
use Rattle.std.proofs.Common.{◌≡◌, ℕ, ◌<◌, ◌⊎◌, Bool, true, false, not, List, [], ◌∷◌, ◌++◌, length, refl, sym, ap, ◌∙◌}
use Rattle.std.proofs.Common.{subst, inl, inr, arith}
use Rattle.std.specs.Prelude.{Option, Some, None}
use Rattle.std.specs.Char.{encode_utf8, is_ascii_uppercase}
use Rattle.std.specs.List.{list_all}
use Rattle.std.specs.Str.{all_scalars, chars}
use Rattle.std.proofs.lemmas.Bool.Decides.{nat_tests}
use Rattle.std.proofs.lemmas.Str.{chars-encodes, encode_ascii, char_from_byte}
use Rattle.unicode_ident.specs.Ident.{is_xid_start, is_xid_continue}
use Rattle.unicode_ident.proofs.IdentLemmas.{is_xid_start-is_xid_continue}
use Rattle.cat_lex.specs.declared.words.DoubleKeyword.{DoubleKeyword}
use Rattle.cat_lex.specs.declared.form.Form.TheVariants.{TypeWord, Word}
use Rattle.cat_lex.specs.Gaps.{is_white_space}
use Rattle.cat_lex.specs.Words.{double_keyword_of}
use Rattle.cat_lex.specs.Forms.{begins_name}
use Rattle.cat_lex.specs.inside.Reading.{skip, begins, after, front_of, pair_or, pair_read, begin_word, word_read}
use Rattle.cat_lex.proofs.Skips.{and_left, and_right, not_true, skip_pass, skip-append, skip_stops}
use Rattle.cat_lex.proofs.Goes.{Goes, Reaches, goes_on}
use Rattle.cat_lex.proofs.Characters.{bytes_of, scalars_append, scalars_skip, after_chars, skip_near, near_le}
use Rattle.cat_lex.proofs.Characters.{capital_continues}

pub blank_bytes : (cs : List ℕ) → begins is_white_space (bytes_of cs) ≡ true → begins is_white_space cs ≡ true
blank_bytes [] h = cc
blank_bytes (c ∷ cs) h = blank_head c cs (bytes_of (c ∷ cs)) refl h
  where
    blank_head : (c : ℕ) (cs text : List ℕ) → text ≡ encode_utf8 c ++ bytes_of cs → begins is_white_space text ≡ true
        → is_white_space c ≡ true
    blank_head c cs [] e h = cc
    blank_head c cs (b ∷ bytes) e h =
        let ascii : b < 128 = grind (arith, nat_tests) in
        let same : c ≡ b = char_from_byte (b ∷ bytes) (bytes_of cs) c e ascii (omega arith) in
        ap is_white_space same ∙ h

pub bytes_blank : (cs : List ℕ) → begins is_white_space cs ≡ true → begins is_white_space (bytes_of cs) ≡ true
bytes_blank [] h = cc
bytes_blank (c ∷ cs) h =
    let ascii : c < 128 = grind (arith, nat_tests) in
    let one : encode_utf8 c ≡ c ∷ [] = encode_ascii c ascii in
    ap (λ (w : List ℕ). begins is_white_space (w ++ bytes_of cs)) one ∙ h

-- a double keyword leaves less than a word
pair_by : (o : Option DoubleKeyword) (end rest : List ℕ) → length end < length rest
    → Goes Word rest (pair_or o end rest)
pair_by None end rest l = inl refl
pair_by (Some keyword) end rest l = inr l

blanks_less : (rs : List ℕ) → begins is_white_space rs ≡ true
    → (n : (skip is_white_space rs ≡ rs) ⊎ (length (bytes_of (skip is_white_space rs)) < length (bytes_of rs)))
    → length (bytes_of (skip is_white_space rs)) < length (bytes_of rs)
blanks_less rs h (inl e) =
    absurd (not_true (begins is_white_space rs) h (ap (begins is_white_space) (sym e) ∙ skip_stops is_white_space rs))
blanks_less rs h (inr l) = l

pair_cond : (text rest : List ℕ) (b : Bool) → begins is_white_space rest ≡ b
    → (b ≡ true → length (after is_xid_continue (after is_white_space rest)) < length rest)
    → Goes Word rest (pair_read text rest)
pair_cond text rest false h l = rw h (inl refl)
pair_cond text rest true h l = rw h
    (pair_by (double_keyword_of (front_of text rest)
    (front_of (after is_white_space rest) (after is_xid_continue (after is_white_space rest))))
    (after is_xid_continue (after is_white_space rest)) rest (l refl))

pair_goes_word : (text rs : List ℕ) → all_scalars rs ≡ true → Goes Word (bytes_of rs) (pair_read text (bytes_of rs))
pair_goes_word text rs h =
    let one : after is_white_space (bytes_of rs) ≡ bytes_of (skip is_white_space rs) =
    after_chars is_white_space rs h in
    let more : all_scalars (skip is_white_space rs) ≡ true = scalars_skip is_white_space rs h in
    let two : after is_xid_continue (after is_white_space (bytes_of rs)) ≡ bytes_of
    (skip is_xid_continue (skip is_white_space rs)) =
    ap (after is_xid_continue) one ∙ after_chars is_xid_continue (skip is_white_space rs) more in
    pair_cond text (bytes_of rs) (begins is_white_space (bytes_of rs)) refl
    (λ b. omega (
      arith,
      ap (λ (w : List ℕ). length w) two,
      near_le is_xid_continue (skip is_white_space rs)
          (skip_near is_xid_continue (skip is_white_space rs)),
      blanks_less rs (blank_bytes rs b) (skip_near is_white_space rs),
    ))

near_chars : (es : List ℕ) → (skip is_xid_continue es ≡ es) ⊎ (length (bytes_of (skip is_xid_continue es)) < length
    (bytes_of es)) → (bytes_of (skip is_xid_continue es) ≡ bytes_of es) ⊎
    (length (bytes_of (skip is_xid_continue es)) < length (bytes_of es))
near_chars es (inl e) = inl (ap (λ (w : List ℕ). bytes_of w) e)
near_chars es (inr l) = inr l

-- the characters of a word, and those after it
pub type_word_read : (c : ℕ) (others es : List ℕ) → all_scalars (c ∷ (others ++ es)) ≡ true
    → is_ascii_uppercase c ≡ true → list_all is_xid_continue others ≡ true
    → Reaches TypeWord (bytes_of es) (word_read (bytes_of (c ∷ (others ++ es))))
type_word_read c others es h capital continued =
    let cs : chars (bytes_of (c ∷ (others ++ es))) ≡ c ∷ (others ++ es) = chars-encodes (c ∷ (others ++ es)) h in
    let run : skip is_xid_continue (c ∷ (others ++ es)) ≡ skip is_xid_continue es = skip_pass is_xid_continue c
    (others ++ es) (capital_continues c capital) ∙ skip-append is_xid_continue others es continued in
    let rest : after is_xid_continue (bytes_of (c ∷ (others ++ es))) ≡ bytes_of (skip is_xid_continue es) =
    after_chars is_xid_continue (c ∷ (others ++ es)) h ∙ ap (λ (w : List ℕ). bytes_of w) run in
    let begun : begin_word (c ∷ (others ++ es)) (bytes_of (c ∷ (others ++ es))) ≡ Some
    (TypeWord, bytes_of (skip is_xid_continue es)) = rw capital (ap (λ (w : List ℕ). Some (TypeWord, w)) rest) in
    let is : word_read (bytes_of (c ∷ (others ++ es))) ≡ Some (TypeWord, bytes_of (skip is_xid_continue es)) =
    ap (λ (w : List ℕ). begin_word w (bytes_of (c ∷ (others ++ es)))) cs ∙ begun in
    subst (Reaches TypeWord (bytes_of es)) (sym is) (goes_on TypeWord (bytes_of (skip is_xid_continue es)) (bytes_of es)
    _ (near_chars es (skip_near is_xid_continue es)) (inl refl))

pub not_capital : (c : ℕ) (b : Bool) → not b ≡ true → b ≡ false
not_capital c true h = cc
not_capital c false h = refl

pub name_read : (c : ℕ) (others es : List ℕ) → all_scalars (c ∷ (others ++ es)) ≡ true → begins_name c ≡ true
    → list_all is_xid_continue others ≡ true
    → word_read (bytes_of (c ∷ (others ++ es))) ≡ Some
    (pair_read (bytes_of (c ∷ (others ++ es))) (bytes_of (skip is_xid_continue es)))
name_read c others es h name continued =
    let starts : is_xid_start c ≡ true = and_left _ _ name in
    let small : is_ascii_uppercase c ≡ false = not_capital c _ (and_right _ _ name) in
    let cs : chars (bytes_of (c ∷ (others ++ es))) ≡ c ∷ (others ++ es) = chars-encodes (c ∷ (others ++ es)) h in
    let run : skip is_xid_continue (c ∷ (others ++ es)) ≡ skip is_xid_continue es = skip_pass is_xid_continue c
    (others ++ es) (is_xid_start-is_xid_continue c starts) ∙ skip-append is_xid_continue others es continued in
    let rest : after is_xid_continue (bytes_of (c ∷ (others ++ es))) ≡ bytes_of (skip is_xid_continue es) =
    after_chars is_xid_continue (c ∷ (others ++ es)) h ∙ ap (λ (w : List ℕ). bytes_of w) run in
    let begun : begin_word (c ∷ (others ++ es)) (bytes_of (c ∷ (others ++ es))) ≡ Some
    (pair_read (bytes_of (c ∷ (others ++ es))) (bytes_of (skip is_xid_continue es))) =
    rw small (rw starts (ap (λ (w : List ℕ). Some (pair_read (bytes_of (c ∷ (others ++ es))) w)) rest)) in
    ap (λ (w : List ℕ). begin_word w (bytes_of (c ∷ (others ++ es)))) cs ∙ begun

pub word_goes_chars : (c : ℕ) (others es : List ℕ) → all_scalars (c ∷ (others ++ es)) ≡ true → begins_name c ≡ true
    → list_all is_xid_continue others ≡ true
    → Reaches Word (bytes_of es) (word_read (bytes_of (c ∷ (others ++ es))))
word_goes_chars c others es h name continued =
    let last : all_scalars es ≡ true = scalars_append (c ∷ others) es h in
    subst (Reaches Word (bytes_of es)) (sym (name_read c others es h name continued))
    (goes_on Word (bytes_of (skip is_xid_continue es)) (bytes_of es) _ (near_chars es (skip_near is_xid_continue es))
    (pair_goes_word (bytes_of (c ∷ (others ++ es))) (skip is_xid_continue es) (scalars_skip is_xid_continue es last)))
