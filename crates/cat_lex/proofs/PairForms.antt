-- Double keywords: they are read wherever they stand.
use Rattle.std.proofs.Common.{◌≡◌, ◌≢◌, ℕ, Bool, true, false, not, ◌&&◌, ltb, List, [], ◌∷◌, ◌++◌, refl, sym, ap, ◌∙◌}
use Rattle.std.proofs.Common.{subst, inl, arith, append_assoc}
use Rattle.std.specs.Prelude.{Some}
use Rattle.std.specs.Char.{is_ascii_lowercase}
use Rattle.std.specs.List.{list_all}
use Rattle.std.specs.Str.{all_scalars, IsUtf8}
use Rattle.std.proofs.lemmas.Str.{encodes-append}
use Rattle.std.proofs.lemmas.Bool.Decides.{nat_tests}
use Rattle.unicode_ident.specs.Ident.{is_xid_start, is_xid_continue}
use Rattle.cat_lex.specs.declared.words.DoubleKeyword.{DoubleKeyword}
use Rattle.cat_lex.specs.declared.form.Form.{Form}
use Rattle.cat_lex.specs.declared.form.Form.TheVariants.{Pair}
use Rattle.cat_lex.specs.Gaps.{is_white_space}
use Rattle.cat_lex.specs.Words.{double_keyword_of, double_keywords}
use Rattle.cat_lex.specs.Forms.{begins_name, IsWhole, IsPair}
use Rattle.cat_lex.specs.inside.Reading.{skip, begins, after, front_of, pair_read, word_read, is_word_byte}
use Rattle.cat_lex.proofs.Skips.{and_left, and_right, and_true, all_append, skip-append, skip_stays}
use Rattle.cat_lex.proofs.Listed.{found_pair, is_small_word, double_keywords_fit}
use Rattle.cat_lex.proofs.Goes.{Reaches}
use Rattle.cat_lex.proofs.Characters.{bytes_of, scalars_append, after_chars, peel, ascii_chars, weaken, small_ascii}
use Rattle.cat_lex.proofs.Characters.{blank_ascii, small_continues, small_starts, blank_ends, small_no_capital}
use Rattle.cat_lex.proofs.Characters.{small_no_blank, front_is}
use Rattle.cat_lex.proofs.WordForms.{name_read, bytes_blank}

-- the words that are listed
record AreSmall (first second : List ℕ) : Type 0 where
  one : list_all is_ascii_lowercase first ≡ true
  other : list_all is_ascii_lowercase second ≡ true
  some : first ≢ []
  more : second ≢ []

small_all : (word : List ℕ) → is_small_word word ≡ true → list_all is_ascii_lowercase word ≡ true
small_all [] h = cc
small_all (c ∷ cs) h = h

small_some : (word : List ℕ) → is_small_word word ≡ true → word ≢ []
small_some [] h = λ e. cc
small_some (c ∷ cs) h = λ e. cc

listed_small : (first second : List ℕ) (keyword : DoubleKeyword) → double_keyword_of first second ≡ Some keyword
    → AreSmall first second
listed_small first second keyword listed =
    let both : (is_small_word first && is_small_word second) ≡ true =
    found_pair is_small_word double_keywords first second keyword double_keywords_fit listed in
    let one : is_small_word first ≡ true = and_left _ _ both in
    let other : is_small_word second ≡ true = and_right _ _ both in
    record {
      one = small_all first one;
      other = small_all second other;
      some = small_some first one;
      more =
          small_some second other;
    }

-- the characters of what is whole stay
whole_stays : (es : List ℕ) → IsWhole (bytes_of es) → skip is_xid_continue es ≡ es
whole_stays [] whole = refl
whole_stays (c ∷ es) whole = skip_stays is_xid_continue (c ∷ es) (whole c (bytes_of es) refl)

all_some : (p : ℕ → Bool) (cs : List ℕ) (tail : List ℕ) → cs ≢ [] → list_all p cs ≡ true → begins p (cs ++ tail) ≡ true
all_some p [] tail some h = absurd (some refl)
all_some p (c ∷ cs) tail some h = and_left _ _ h

none_begins : (p q : ℕ → Bool) → ((c : ℕ) → p c ≡ true → q c ≡ false) → (cs : List ℕ) → begins p cs ≡ true
    → begins q cs ≡ false
none_begins p q other [] h = refl
none_begins p q other (c ∷ cs) h = other c h

-- the text after the first word, in its characters
record HasEnds (keyword : DoubleKeyword) (first spaces second es : List ℕ) : Type 0 where
  small : AreSmall first second
  listed : double_keyword_of first second ≡ Some keyword
  some : spaces ≢ []
  white : list_all is_white_space spaces ≡ true
  whole : skip is_xid_continue es ≡ es
  scalars : all_scalars (spaces ++ (second ++ es)) ≡ true

first_rest : {keyword : DoubleKeyword} (first spaces second es : List ℕ) → HasEnds keyword first spaces second es
    → skip is_xid_continue (spaces ++ (second ++ es)) ≡ spaces ++ (second ++ es)
first_rest first spaces second es h =
    skip_stays is_xid_continue (spaces ++ (second ++ es))
    (none_begins is_white_space is_xid_continue blank_ends (spaces ++ (second ++ es))
    (all_some is_white_space spaces (second ++ es) h.some h.white))

second_rest : {keyword : DoubleKeyword} (first spaces second es : List ℕ) → HasEnds keyword first spaces second es
    → skip is_white_space (spaces ++ (second ++ es)) ≡ second ++ es
second_rest first spaces second es h =
    skip-append is_white_space spaces (second ++ es) h.white ∙ skip_stays is_white_space (second ++ es)
    (none_begins is_ascii_lowercase is_white_space small_no_blank (second ++ es)
    (all_some is_ascii_lowercase second es h.small.more h.small.other))

end_rest : {keyword : DoubleKeyword} (first spaces second es : List ℕ) → HasEnds keyword first spaces second es
    → skip is_xid_continue (second ++ es) ≡ es
end_rest first spaces second es h =
    skip-append is_xid_continue second es (weaken is_ascii_lowercase is_xid_continue small_continues second
    h.small.other) ∙ h.whole

pair_is : (keyword : DoubleKeyword) (text rest second end : List ℕ) → begins is_white_space rest ≡ true
    → after is_white_space rest ≡ second → after is_xid_continue second ≡ end
    → double_keyword_of (front_of text rest) (front_of second end) ≡ Some keyword
    → pair_read text rest ≡ (Pair keyword, end)
pair_is keyword text rest second end b one two listed =
    rw b (rw one (rw two (rw listed refl)))

ascii_small : (cs : List ℕ) → list_all is_ascii_lowercase cs ≡ true → bytes_of cs ≡ cs
ascii_small cs h = ascii_chars cs (weaken is_ascii_lowercase (λ c. ltb c 128) small_ascii cs h)

small_name : (c : ℕ) → is_ascii_lowercase c ≡ true → begins_name c ≡ true
small_name c h = and_true (is_xid_start c) _ (small_starts c h) (ap not (small_no_capital c h))

pair_chars : (keyword : DoubleKeyword) (first spaces second es : List ℕ) → HasEnds keyword first spaces second es
    → all_scalars (first ++ (spaces ++ (second ++ es))) ≡ true
    → word_read (bytes_of (first ++ (spaces ++ (second ++ es)))) ≡ Some (Pair keyword, bytes_of es)
pair_chars keyword [] spaces second es h all = absurd (h.small.some refl)
pair_chars keyword (c ∷ others) spaces second es h all =
    let named = name_read c others (spaces ++ (second ++ es)) all (small_name c (and_left _ _ h.small.one))
    (weaken is_ascii_lowercase is_xid_continue small_continues others (and_right _ _ h.small.one)) in
    let stays : bytes_of (skip is_xid_continue (spaces ++ (second ++ es))) ≡ bytes_of (spaces ++ (second ++ es)) =
    ap (λ (w : List ℕ). bytes_of w) (first_rest (c ∷ others) spaces second es h) in
    let begun : begins is_white_space (bytes_of (spaces ++ (second ++ es))) ≡ true =
    bytes_blank (spaces ++ (second ++ es)) (all_some is_white_space spaces (second ++ es) h.some h.white) in
    let one : after is_white_space (bytes_of (spaces ++ (second ++ es))) ≡ bytes_of (second ++ es) =
    after_chars is_white_space (spaces ++ (second ++ es)) h.scalars ∙ ap (λ (w : List ℕ). bytes_of w)
    (second_rest (c ∷ others) spaces second es h) in
    let two : after is_xid_continue (bytes_of (second ++ es)) ≡ bytes_of es =
    after_chars is_xid_continue (second ++ es) (scalars_append spaces (second ++ es) h.scalars)
    ∙ ap (λ (w : List ℕ). bytes_of w) (end_rest (c ∷ others) spaces second es h) in
    let front : front_of (bytes_of ((c ∷ others) ++ (spaces ++ (second ++ es)))) (bytes_of (spaces ++ (second ++ es)))
    ≡ c ∷ others =
    ap (λ (w : List ℕ). front_of w (bytes_of (spaces ++ (second ++ es))))
    (encodes-append (c ∷ others) (spaces ++ (second ++ es)))
    ∙ (front_is (bytes_of (c ∷ others)) (bytes_of (spaces ++ (second ++ es))) ∙ ascii_small (c ∷ others) h.small.one) in
    let back : front_of (bytes_of (second ++ es)) (bytes_of es) ≡ second =
    ap (λ (w : List ℕ). front_of w (bytes_of es)) (encodes-append second es)
    ∙ (front_is (bytes_of second) (bytes_of es) ∙ ascii_small second h.small.other) in
    let listed : double_keyword_of (front_of (bytes_of ((c ∷ others) ++ (spaces ++ (second ++ es))))
    (bytes_of (spaces ++ (second ++ es)))) (front_of (bytes_of (second ++ es)) (bytes_of es)) ≡ Some keyword =
    ap (λ (w : List ℕ). double_keyword_of w (front_of (bytes_of (second ++ es)) (bytes_of es))) front
    ∙ (ap (λ (w : List ℕ). double_keyword_of (c ∷ others) w) back ∙ h.listed) in
    let paired = pair_is keyword (bytes_of ((c ∷ others) ++ (spaces ++ (second ++ es))))
    (bytes_of (spaces ++ (second ++ es))) (bytes_of (second ++ es)) (bytes_of es) begun one two listed in
    named ∙ (ap (λ (w : List ℕ). Some (pair_read (bytes_of ((c ∷ others) ++ (spaces ++ (second ++ es)))) w)) stays
    ∙ ap (λ (w : Form × List ℕ). Some w) paired)

pub pair_low : (keyword : DoubleKeyword) (word rest : List ℕ) (pair : IsPair keyword word rest)
    → list_all (λ c. ltb c 128) (pair.first ++ (pair.spaces ++ pair.second)) ≡ true
pair_low keyword word rest pair =
    let small = listed_small pair.first pair.second keyword pair.listed in
    all_append (λ c. ltb c 128) pair.first (pair.spaces ++ pair.second)
    (weaken is_ascii_lowercase (λ c. ltb c 128) small_ascii pair.first small.one)
    (all_append (λ c. ltb c 128) pair.spaces pair.second (weaken is_white_space (λ c. ltb c 128) blank_ascii pair.spaces
    pair.white) (weaken is_ascii_lowercase (λ c. ltb c 128) small_ascii pair.second small.other))

pub pair_goes : (keyword : DoubleKeyword) (word rest : List ℕ) → IsPair keyword word rest → IsUtf8 (word ++ rest)
    → Reaches (Pair keyword) rest (word_read (word ++ rest))
pair_goes keyword word rest pair utf8 =
    let small = listed_small pair.first pair.second keyword pair.listed in
    let spelled : word ≡ bytes_of (pair.first ++ (pair.spaces ++ pair.second)) =
    pair.spelled ∙ sym (ascii_chars (pair.first ++ (pair.spaces ++ pair.second)) (pair_low keyword word rest pair)) in
    let rested = peel (pair.first ++ (pair.spaces ++ pair.second)) utf8.0 rest
    (utf8.1.1 ∙ ap (λ (w : List ℕ). w ++ rest) spelled) in
    let split : utf8.0 ≡ pair.first ++ (pair.spaces ++ (pair.second ++ rested.0)) = rested.1 ∙ simp append_assoc in
    let all : all_scalars (pair.first ++ (pair.spaces ++ (pair.second ++ rested.0))) ≡ true =
    ap all_scalars (sym split) ∙ utf8.1.0 in
    let whole : IsWhole (bytes_of rested.0) = subst (λ (w : List ℕ). IsWhole w) (sym rested.2) pair.whole in
    let ends : HasEnds keyword pair.first pair.spaces pair.second rested.0 = record {
      small = small;
      listed = pair.listed;
      some = pair.some;
      white = pair.white;
      whole = whole_stays rested.0 whole;
      scalars = scalars_append pair.first (pair.spaces ++ (pair.second ++ rested.0)) all;
    } in
    let is : word_read (word ++ rest) ≡ Some (Pair keyword, rest) =
    ap word_read (sym utf8.1.1 ∙ ap (λ (w : List ℕ). bytes_of w) split)
    ∙ (pair_chars keyword pair.first pair.spaces pair.second rested.0 ends all
    ∙ ap (λ (w : List ℕ). Some (Pair keyword, w)) rested.2) in
    subst (Reaches (Pair keyword) rest) (sym is) (inl refl)

small_word_byte : (c : ℕ) → is_ascii_lowercase c ≡ true → is_word_byte c ≡ true
small_word_byte c h = grind (arith, nat_tests)

begins_small : (first tail : List ℕ) → first ≢ [] → list_all is_ascii_lowercase first ≡ true
    → begins is_word_byte (first ++ tail) ≡ true
begins_small [] tail some h = absurd (some refl)
begins_small (c ∷ cs) tail some h = small_word_byte c (and_left _ _ h)

pub pair_begins : (keyword : DoubleKeyword) (word rest : List ℕ) → IsPair keyword word rest
    → begins is_word_byte (word ++ rest) ≡ true
pair_begins keyword word rest pair =
    let small = listed_small pair.first pair.second keyword pair.listed in
    let split : word ++ rest ≡ pair.first ++ ((pair.spaces ++ pair.second) ++ rest) =
    ap (λ (w : List ℕ). w ++ rest) pair.spelled ∙ append_assoc pair.first (pair.spaces ++ pair.second) rest in
    ap (begins is_word_byte) split ∙ begins_small pair.first ((pair.spaces ++ pair.second) ++ rest) small.some small.one

pub pair_some : (keyword : DoubleKeyword) (word rest : List ℕ) (pair : IsPair keyword word rest) → pair.first ≢ []
pair_some keyword word rest pair = (listed_small pair.first pair.second keyword pair.listed).some
