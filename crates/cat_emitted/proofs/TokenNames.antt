-- The names among tokens are spelled as names are.
use Rattle.std.proofs.Common.{◌≡◌, ℕ, Bool, true, false, List, [], ◌∷◌, ◌++◌, refl, sym, ap, ◌∙◌, subst}
use Rattle.std.specs.Prelude.{Option, Some, None}
use Rattle.std.specs.Option.{option_map}
use Rattle.std.specs.Str.{IsUtf8, all_scalars}
use Rattle.std.specs.Char.{is_ascii_uppercase}
use Rattle.cat_pos.specs.declared.pos.Piece.{Piece}
use Rattle.cat_lex.specs.declared.form.Form.{Form}
use Rattle.cat_lex.specs.declared.form.Form.TheVariants.{TypeWord, Word, Pair, Whole, Decimal, Percent, Amount, Date}
use Rattle.cat_lex.specs.declared.form.Form.TheVariants.{Mark}
use Rattle.cat_lex.specs.declared.token.Token.{Token}
use Rattle.cat_lex.specs.declared.token.TokenKind.{TokenKind}
use Rattle.cat_lex.specs.declared.token.TokenKind.TheVariants as kind
use Rattle.cat_lex.specs.declared.words.Keyword.{Keyword}
use Rattle.cat_lex.specs.Words.{keyword_of}
use Rattle.cat_lex.specs.Forms.{HasForm, IsWord, begins_name}
use Rattle.cat_lex.specs.Values.{token_of, within, word_kind}
use Rattle.cat_lex.specs.Lexes.{Lexes, AreTokens, left_after}
use Rattle.cat_lex.proofs.Skips.{and_left, and_right, and_true}
use Rattle.cat_lex.proofs.Characters.{peel}
use Rattle.cat_lex.proofs.Spelled.{rest_utf8}
use Rattle.cat_lex.proofs.Sequences.{token_utf8}
use Rattle.cat_scope.specs.Names.{AllHave}
use Rattle.cat_scope.proofs.Exported.{all_append}
use Rattle.cat_emitted.specs.Spelled.{IsTypeWord, IsPartWord}

-- a kind of tokens whose name, where it has one, is spelled as one
abbrev pub IsNamedFairly : TokenKind → Type 0
IsNamedFairly (kind.Upper w) = IsTypeWord w
IsNamedFairly (kind.Lower w) = IsPartWord w
IsNamedFairly _ = Unit {0}

-- ---- the text of a word

scalars_front : (xs ys : List ℕ) → all_scalars (xs ++ ys) ≡ true → all_scalars xs ≡ true
scalars_front [] ys h = refl
scalars_front (x ∷ xs) ys h = and_true _ _ (and_left _ _ h) (scalars_front xs ys (and_right _ _ h))

word_utf8 : (starts : ℕ → Bool) (word rest : List ℕ) → IsWord starts word → IsUtf8 (word ++ rest) → IsUtf8 word
word_utf8 starts word rest w utf8 =
    let cs = w.first ∷ w.others in
    let rested = peel cs utf8.0 rest (utf8.1.1 ∙ ap (λ (x : List ℕ). x ++ rest) w.spelled) in
    (cs, (scalars_front cs rested.0 (ap all_scalars (sym rested.1) ∙ utf8.1.0), sym w.spelled))

-- ---- one token

some_same : {A : Type 0} (x y : A) → Some x ≡ Some y → x ≡ y
some_same x y h = cc h

within_same : (b : Bool) (k found : TokenKind) → within b k ≡ Some found → k ≡ found
within_same true k found h = cc h
within_same false k found h = cc h

fair_word : (word rest : List ℕ) (found : TokenKind) → IsWord begins_name word → IsUtf8 (word ++ rest)
    → Some (word_kind (keyword_of word) word) ≡ Some found → IsNamedFairly found
fair_word word rest found w utf8 h = by (keyword_of word) refl (some_same _ found h)
  where
    by : (o : Option Keyword) → keyword_of word ≡ o → word_kind o word ≡ found → IsNamedFairly found
    by None e is =
        subst IsNamedFairly is (record { word = w; free = e; utf8 = word_utf8 begins_name word rest w utf8 })
    by (Some k) e is = subst IsNamedFairly is tt

pub fair_token : (form : Form) (word rest : List ℕ) (found : TokenKind) → HasForm form word rest
    → IsUtf8 (word ++ rest) → token_of form word ≡ Some found → IsNamedFairly found
fair_token TypeWord word rest found w utf8 h =
    subst IsNamedFairly (some_same (kind.Upper word) found h)
    (record { word = w; utf8 = word_utf8 is_ascii_uppercase word rest w utf8 })
fair_token Word word rest found w utf8 h = fair_word word rest found w utf8 h
fair_token (Pair keyword) word rest found w utf8 h = subst IsNamedFairly (some_same (kind.Pair keyword) found h) tt
fair_token Whole word rest found w utf8 h = subst IsNamedFairly (within_same _ _ found h) tt
fair_token Decimal word rest found w utf8 h = subst IsNamedFairly (within_same _ _ found h) tt
fair_token Percent word rest found w utf8 h = subst IsNamedFairly (within_same _ _ found h) tt
fair_token Amount word rest found w utf8 h = subst IsNamedFairly (within_same _ _ found h) tt
fair_token Date word rest found w utf8 h = by _ h
  where
    by : (o : Option _) → option_map (λ day. kind.Date day) o ≡ Some found → IsNamedFairly found
    by None e = cc e
    by (Some day) e = subst IsNamedFairly (some_same (kind.Date day) found e) tt
fair_token (Mark symbol) word rest found w utf8 h = subst IsNamedFairly (some_same (kind.Symbol symbol) found h) tt

-- ---- all of them

abbrev pub AreNamedFairly : List Token → Type 0
AreNamedFairly tokens = AllHave (λ t. IsNamedFairly t.kind) tokens

tokens_fair : (piece : Piece) (tokens : List Token) (left : Piece) → AreTokens piece tokens left → IsUtf8 piece.text
    → AreNamedFairly tokens
tokens_fair piece [] left are utf8 = tt
tokens_fair piece (token ∷ tokens) left are utf8 =
    let formed = are.5.longest.formed in
    let here = token_utf8 piece.text are.0 are.1 are.2 are.5.form utf8 are.3 are.4 formed in (
      fair_token are.5.form are.1 are.2 token.kind formed here are.5.kind,
      tokens_fair (left_after piece (are.0 ++ are.1) are.2) tokens left are.6
          (rest_utf8 are.5.form are.1 are.2 formed here),
    )

pub lexed_fair : (pieces : List Piece) (tokens : List Token) → Lexes pieces tokens → AreNamedFairly tokens
lexed_fair [] tokens lexed = subst AreNamedFairly (sym lexed) tt
lexed_fair (piece ∷ pieces) tokens lexed =
    subst AreNamedFairly (sym lexed.2)
    (all_append (λ t. IsNamedFairly t.kind) lexed.0 lexed.1
    (tokens_fair piece lexed.0 lexed.3.left lexed.3.spelled lexed.3.utf8) (lexed_fair pieces lexed.1 lexed.4))
