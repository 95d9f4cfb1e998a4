-- Texts as words: by their characters, and as the one token that a word on its own is.
use Rattle.std.proofs.Common.{◌≡◌, ◌≢◌, ℕ, ◌<◌, Bool, true, false, not, List, [], ◌∷◌, ◌++◌, drop, length}
use Rattle.std.proofs.Common.{Option, Some, None, refl, sym, ap, ◌∙◌, arith, append-nil, true≢false}
use Rattle.std.specs.Prelude.{◌&&◌, nat_le, is_some, if◌then◌else◌, bytes_eq}
use Rattle.std.specs.List.{list_all}
use Rattle.std.specs.Char.{encode_utf8, is_ascii_uppercase}
use Rattle.std.specs.Str.{chars, encode_utf8_all, IsUtf8}
use Rattle.std.proofs.lemmas.Str.{chars-nil, encodes-chars, encodes_same, len_utf8_bounds, length-encode}
use Rattle.std.proofs.lemmas.List.{length-append}
use Rattle.std.proofs.lemmas.Slice.Eq.{bytes_eq-Decides}
use Rattle.std.proofs.lemmas.Bool.{and_parts}
use Rattle.std.proofs.lemmas.Bool.Decides.{nat_tests}
use Rattle.unicode_ident.specs.Ident.{is_xid_start, is_xid_continue}
use Rattle.cat_pos.specs.declared.pos.Pos.{Pos}
use Rattle.cat_pos.specs.declared.pos.Piece.{Piece}
use Rattle.cat_lex.specs.declared.form.Form.{Form}
use Rattle.cat_lex.specs.declared.form.Form.TheVariants as form
use Rattle.cat_lex.specs.declared.token.Token.{Token}
use Rattle.cat_lex.specs.declared.words.Keyword.{Keyword}
use Rattle.cat_lex.specs.Words.{look_up, keywords, keyword_of}
use Rattle.cat_lex.specs.Forms.{HasForm, IsWord, begins_name}
use Rattle.cat_lex.specs.Values.{word_kind}
use Rattle.cat_lex.specs.Positions.{position_after}
use Rattle.cat_lex.specs.Lexes.{Lexes, left_after}
use Rattle.cat_verify_tables.specs.inside.WordKinds.{is_word, is_reserved}

abbrev Text : Type 0
Text = List ℕ

-- ---- by characters

abbrev first_of : List ℕ → ℕ
first_of [] = 0
first_of (c ∷ cs) = c

word_chars : (begins : ℕ → Bool) (text : Text) → IsUtf8 text → (w : IsWord begins text)
    → chars text ≡ w.first ∷ w.others
word_chars begins text utf8 w = encodes_same (chars text) (w.first ∷ w.others) (encodes-chars text utf8 ∙ w.spelled)

-- a word
pub is_spelled : (begins : ℕ → Bool) (text others : Text) (first : ℕ) → IsUtf8 text
    → chars text ≡ first ∷ chars others → begins first ≡ true → list_all is_xid_continue (chars others) ≡ true
    → IsWord begins text
is_spelled begins text others first utf8 same begun continued = record {
  first = first;
  others = chars others;
  begun = begun;
  continued = continued;
  spelled = sym (encodes-chars text utf8) ∙ ap encode_utf8_all same;
}

-- no word: of no characters
pub no_text : (begins : ℕ → Bool) (text : Text) → IsUtf8 text → text ≡ [] → IsWord begins text → ⊥
no_text begins text utf8 none w =
    let count = ap length (sym (ap chars none ∙ chars-nil) ∙ word_chars begins text utf8 w) in
    omega (arith, count)

-- or that begins otherwise
pub no_start : (begins : ℕ → Bool) (text others : Text) (first : ℕ) → IsUtf8 text
    → chars text ≡ first ∷ chars others → begins first ≡ false → IsWord begins text → ⊥
no_start begins text others first utf8 same other w =
    let one : w.first ≡ first = ap first_of (sym (word_chars begins text utf8 w) ∙ same) in
    true≢false (sym w.begun ∙ ap begins one ∙ other)

-- or goes on otherwise
pub no_end : (begins : ℕ → Bool) (text others : Text) (first : ℕ) → IsUtf8 text
    → chars text ≡ first ∷ chars others → list_all is_xid_continue (chars others) ≡ false → IsWord begins text → ⊥
no_end begins text others first utf8 same other w =
    let more : w.others ≡ chars others = ap (drop 1) (sym (word_chars begins text utf8 w) ∙ same) in
    true≢false (sym w.continued ∙ ap (list_all is_xid_continue) more ∙ other)

pub lower_start : (c : ℕ) → is_ascii_uppercase c ≡ false → is_xid_start c ≡ true → begins_name c ≡ true
lower_start c lower starts = rw (lower, starts) refl

pub upper_start : (c : ℕ) → is_ascii_uppercase c ≡ true → begins_name c ≡ false
upper_start c upper = by (is_xid_start c)
  where
    by : (starts : Bool) → (starts && not (is_ascii_uppercase c)) ≡ false
    by true = ap not upper
    by false = refl

pub other_start : (c : ℕ) → is_xid_start c ≡ false → begins_name c ≡ false
other_start c other = ap (λ (starts : Bool). starts && not (is_ascii_uppercase c)) other

-- ---- character by character

pub none_more : (p : ℕ → Bool) (text : Text) → text ≡ [] → true ≡ list_all p (chars text)
none_more p text none = rw none (rw chars-nil refl)

pub goes_on : (p : ℕ → Bool) (text rest : Text) (c : ℕ) → chars text ≡ c ∷ chars rest → p c ≡ true
    → list_all p (chars rest) ≡ list_all p (chars text)
goes_on p text rest c split passes = rw (split, passes) refl

pub stops : (p : ℕ → Bool) (text rest : Text) (c : ℕ) → chars text ≡ c ∷ chars rest → p c ≡ false
    → false ≡ list_all p (chars text)
stops p text rest c split fails = rw (split, fails) refl

pub shorter : (text rest : Text) (c : ℕ) → text ≡ encode_utf8 c ++ rest → length rest < length text
shorter text rest c split =
    let bound = len_utf8_bounds c in
    let same : length text ≡ length (encode_utf8 c ++ rest) = ap length split in
    omega (arith, bound.0, same, length-append (encode_utf8 c) rest, length-encode c)

-- a step over one character
pub ruleset stepping = (none_more, goes_on, stops, shorter)

-- ---- keywords

pub no_keyword : (found : Option Keyword) → is_some found ≡ false → found ≡ None
no_keyword None none = refl
no_keyword (Some keyword) none = absurd (true≢false none)

pub some_keyword : (found : Option Keyword) → is_some found ≡ true → found ≡ None → ⊥
some_keyword found some none = true≢false (sym some ∙ ap is_some none)

abbrev all_short : {K : Type 0} → List (Text × K) → Bool
all_short entries = list_all (λ entry. nat_le (length entry.0) 11) entries

not_short_by : {K : Type 0} (entry : Text × K) (text : Text) (found : Option K) (same : Bool) → 11 < length text
    → nat_le (length entry.0) 11 ≡ true → bytes_eq text entry.0 ≡ same → found ≡ None
    → (if same then Some entry.1 else found) ≡ None
not_short_by entry text found true long short is none =
    let equal = ap length ((bytes_eq-Decides text entry.0).0 is) in
    absurd (grind (arith, nat_tests, equal, short, long))
not_short_by entry text found false long short is none = none

not_short : {K : Type 0} (entries : List (Text × K)) (text : Text) → 11 < length text → all_short entries ≡ true
    → look_up entries text ≡ None
not_short [] text long short = refl
not_short (entry ∷ entries) text long short =
    let parts = and_parts (nat_le (length entry.0) 11) (all_short entries) short in
    not_short_by entry text (look_up entries text) (bytes_eq text entry.0) long parts.0 refl
    (not_short entries text long parts.1)

keywords_short : all_short keywords ≡ true
unfolding keywords
keywords_short = refl

pub long_word : (text : Text) → 11 < length text → keyword_of text ≡ None
long_word text long = not_short keywords text long keywords_short

-- ---- a word on its own

abbrev pub piece_of : Text → Pos → Piece
piece_of text pos = record { text = text; pos = pos }

abbrev token_at : Text → Pos → Token
token_at text pos = record { kind = word_kind (keyword_of text) text; pos = position_after pos [] }

none_longer : (text : Text) (other : Form) (more after : Text) → [] ≡ more ++ after → more ≢ []
    → HasForm other (text ++ more) after → ⊥
none_longer text other [] after split some formed = some refl
none_longer text other (b ∷ more) after split some formed = absurd (cc)

word_lexes : (text : Text) (pos : Pos) → IsUtf8 text → IsWord begins_name text
    → Lexes (piece_of text pos ∷ []) (token_at text pos ∷ [])
word_lexes text pos utf8 word = (
  token_at text pos ∷ [],
  [],
  refl,
  record {
    utf8 = utf8;
    left = left_after (piece_of text pos) ([] ++ text) [];
    spelled = (
      [],
      text,
      [],
      sym (append-nil text),
      refl,
      record {
        form = form.Word;
        longest = record { formed = word; longest = none_longer text };
        kind = refl;
        position_is = refl;
      },
      refl,
    );
    ended = refl;
  },
  refl,
)

reserved_by : (found : Option Keyword) (text : Text) → is_word (word_kind found text) ≡ is_some found
reserved_by None text = refl
reserved_by (Some keyword) text = refl

-- the tokens of a word are one keyword where it is one
pub word_reserved : (text : Text) (pos : Pos) (tokens : List Token) → IsUtf8 text → IsWord begins_name text
    → ((pieces : List Piece) (ts us : List Token) → Lexes pieces ts → Lexes pieces us → ts ≡ us)
    → Lexes (piece_of text pos ∷ []) tokens → is_reserved tokens ≡ is_some (keyword_of text)
word_reserved text pos tokens utf8 word one lexes =
    ap is_reserved (one (piece_of text pos ∷ []) tokens (token_at text pos ∷ []) lexes (word_lexes text pos utf8 word))
    ∙ reserved_by (keyword_of text) text
