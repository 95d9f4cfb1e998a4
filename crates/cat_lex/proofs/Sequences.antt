-- Pieces and their tokens, one after the other.
use Rattle.std.proofs.Common.{◌≡◌, ℕ, ◌⊎◌, false, List, [], ◌∷◌, ◌++◌, length, refl, sym, ap, ◌∙◌, subst, inl, inr}
use Rattle.std.proofs.Common.{arith}
use Rattle.std.specs.Prelude.{Some}
use Rattle.std.specs.Str.{IsUtf8}
use Rattle.std.proofs.lemmas.List.{length-append}
use Rattle.cat_pos.specs.declared.pos.Pos.{Pos}
use Rattle.cat_pos.specs.declared.pos.Piece.{Piece}
use Rattle.cat_lex.specs.declared.form.Form.{Form}
use Rattle.cat_lex.specs.declared.token.Token.{Token}
use Rattle.cat_lex.specs.declared.token.TokenKind.{TokenKind}
use Rattle.cat_lex.specs.Positions.{position_after, next_position}
use Rattle.cat_lex.specs.Gaps.{IsGap, IsLastGap}
use Rattle.cat_lex.specs.Forms.{HasForm, IsLongest}
use Rattle.cat_lex.specs.Values.{token_of}
use Rattle.cat_lex.specs.Lexes.{IsToken, left_after, AreTokens, IsPieceOf, Lexes}
use Rattle.cat_lex.specs.inside.Reading.{read, skip_gap}
use Rattle.cat_lex.proofs.GapLemmas.{gap_skipped, last_skipped, gap_utf8}
use Rattle.cat_lex.proofs.Spelled.{rest_utf8, token_no_gap, token_some}
use Rattle.cat_lex.proofs.Fronts.{longest_read}

pub position_after-append : (pos : Pos) (xs ys : List ℕ)
    → position_after (position_after pos xs) ys ≡ position_after pos (xs ++ ys)
position_after-append pos [] ys = refl
position_after-append pos (x ∷ xs) ys = position_after-append (next_position pos x) xs ys

pub append_nil : {A : Type 0} (xs : List A) → xs ++ [] ≡ xs
append_nil [] = refl
append_nil (x ∷ xs) = ap (λ (w : List _). x ∷ w) (append_nil xs)

-- one token more
pub one_more : (piece : Piece) (tokens : List Token) (left : Piece) (token : Token) (gap word rest : List ℕ)
    → AreTokens piece tokens left → left.text ≡ gap ++ (word ++ rest) → IsGap gap
    → IsToken token (position_after left.pos gap) word rest
    → AreTokens piece (tokens ++ (token ∷ [])) (left_after left (gap ++ word) rest)
one_more piece [] left token gap word rest are split skipped is =
    let same : left ≡ piece = sym are in
    subst (λ (p : Piece). AreTokens p (token ∷ []) (left_after left (gap ++ word) rest)) same
    (gap, word, rest, split, skipped, is, refl)
one_more piece (first ∷ tokens) left token gap word rest are split skipped is = (
  are.0,
  are.1,
  are.2,
  are.3,
  are.4,
  are.5,
  one_more
      (left_after piece (are.0 ++ are.1) are.2) tokens left token gap word rest are.6 split skipped is,
)

-- what is left after a gap is where the token stands
pub skipped_to : (text gap word rest : List ℕ) (form : Form) → text ≡ gap ++ (word ++ rest) → IsGap gap
    → HasForm form word rest → skip_gap false text ≡ word ++ rest
skipped_to text gap word rest form split skipped formed =
    ap (skip_gap false) split ∙ gap_skipped false gap (word ++ rest) skipped (token_no_gap form word rest formed)

pub token_utf8 : (text gap word rest : List ℕ) (form : Form) → IsUtf8 text → text ≡ gap ++ (word ++ rest)
    → IsGap gap → HasForm form word rest → IsUtf8 (word ++ rest)
token_utf8 text gap word rest form utf8 split skipped formed =
    subst IsUtf8 (skipped_to text gap word rest form split skipped formed) (gap_utf8 text utf8)

pub tokens_utf8 : (piece : Piece) (tokens : List Token) (left : Piece) → AreTokens piece tokens left → IsUtf8 piece.text
    → IsUtf8 left.text
tokens_utf8 piece [] left are utf8 = subst (λ (p : Piece). IsUtf8 p.text) are utf8
tokens_utf8 piece (token ∷ tokens) left are utf8 =
    let formed = are.5.longest.formed in
    tokens_utf8 (left_after piece (are.0 ++ are.1) are.2) tokens left are.6
    (rest_utf8 are.5.form are.1 are.2 formed
    (token_utf8 piece.text are.0 are.1 are.2 are.5.form utf8 are.3 are.4 formed))

pub cancel_right : (xs ys zs : List ℕ) → xs ++ zs ≡ ys ++ zs → xs ≡ ys
cancel_right [] [] zs e = refl
cancel_right [] (y ∷ ys) zs e =
    absurd (let l : length zs ≡ length (y ∷ (ys ++ zs)) = ap (λ (w : List ℕ). length w) e in
    omega (arith, l, length-append ys zs))
cancel_right (x ∷ xs) [] zs e =
    absurd (let l : length (x ∷ (xs ++ zs)) ≡ length zs = ap (λ (w : List ℕ). length w) e in
    omega (arith, l, length-append xs zs))
cancel_right (x ∷ xs) (y ∷ ys) zs e =
    let head : x ≡ y = cc in
    let tail : xs ++ zs ≡ ys ++ zs = cc in
    rw head (ap (λ (w : List ℕ). y ∷ w) (cancel_right xs ys zs tail))

-- two tokens that stand first in one text
pub record AreOne (form other : Form) (word rest word' rest' : List ℕ) : Type 0 where
  pub form_is : form ≡ other
  pub word_is : word ≡ word'
  pub rest_is : rest ≡ rest'

pub one_token : (form other : Form) (word rest word' rest' : List ℕ) → word ++ rest ≡ word' ++ rest'
    → IsLongest form word rest → IsLongest other word' rest' → IsUtf8 (word ++ rest)
    → AreOne form other word rest word' rest'
one_token form other word rest word' rest' same one two utf8 =
    let a : read (word ++ rest) ≡ Some (form, rest) = longest_read form word rest one utf8 in
    let b : read (word' ++ rest') ≡ Some (other, rest') = longest_read other word' rest' two (subst IsUtf8 same utf8) in
    let both : Some (form, rest) ≡ Some (other, rest') = sym a ∙ (ap read same ∙ b) in
    let pair : (form, rest) ≡ (other, rest') = cc in
    let rests : rest ≡ rest' = ap (λ (w : Form × List ℕ). w.1) pair in
    record {
      form_is = ap (λ (w : Form × List ℕ). w.0) pair;
      word_is = cancel_right word word' rest' (ap (λ (w : List ℕ). word ++ w) (sym rests) ∙ same);
      rest_is = rests;
    }

abbrev made : TokenKind → Pos → Token
made kind pos = record { kind = kind; pos = pos }

token_ext : (one two : Token) → one.kind ≡ two.kind → one.pos ≡ two.pos → one ≡ two
token_ext one two k p = ap (λ (kind : TokenKind). made kind one.pos) k ∙ ap (λ (pos : Pos). made two.kind pos) p

-- one list of tokens goes on with more of them, from what is left
pub record GoesOn (tokens others : List Token) (left left' : Piece) : Type 0 where
  pub more : List Token
  pub whole : others ≡ tokens ++ more
  pub spelled : AreTokens left more left'

some_kind : (form other : Form) (word word' : List ℕ) (one two : TokenKind) → form ≡ other → word ≡ word'
    → token_of form word ≡ Some one → token_of other word' ≡ Some two → one ≡ two
some_kind form other word word' one two f w a b =
    let same : Some one ≡ Some two =
    sym a ∙ (ap (λ (x : Form). token_of x word) f ∙ (ap (λ (x : List ℕ). token_of other x) w ∙ b)) in cc

-- the first tokens of two readings are one, and so is what they leave
record AreSame (piece : Piece) (one two : Token) (gap word rest gap' word' rest' : List ℕ) : Type 0 where
  token_is : one ≡ two
  left_is : left_after piece (gap ++ word) rest ≡ left_after piece (gap' ++ word') rest'
  utf8 : IsUtf8 rest

same_first : (piece : Piece) (one two : Token) (gap word rest gap' word' rest' : List ℕ) → IsUtf8 piece.text
    → piece.text ≡ gap ++ (word ++ rest) → IsGap gap → IsToken one (position_after piece.pos gap) word rest
    → piece.text ≡ gap' ++ (word' ++ rest') → IsGap gap'
    → IsToken two (position_after piece.pos gap') word' rest'
    → AreSame piece one two gap word rest gap' word' rest'
same_first piece one two gap word rest gap' word' rest' utf8 split skipped is split' skipped' is' =
    let here = skipped_to piece.text gap word rest is.form split skipped is.longest.formed in
    let there = skipped_to piece.text gap' word' rest' is'.form split' skipped' is'.longest.formed in
    let first : IsUtf8 (word ++ rest) =
    token_utf8 piece.text gap word rest is.form utf8 split skipped is.longest.formed in
    let same : word ++ rest ≡ word' ++ rest' = sym here ∙ there in
    let o = one_token is.form is'.form word rest word' rest' same is.longest is'.longest first in
    let gaps : gap ≡ gap' = cancel_right gap gap' (word' ++ rest')
    (ap (λ (w : List ℕ). gap ++ w) (sym same) ∙ (sym split ∙ split')) in
    let kinds : one.kind ≡ two.kind =
    some_kind is.form is'.form word word' one.kind two.kind o.form_is o.word_is is.kind is'.kind in
    let places : one.pos ≡ two.pos =
    is.position_is ∙ (ap (λ (w : List ℕ). position_after piece.pos w) gaps ∙ sym is'.position_is) in
    record {
      token_is = token_ext one two kinds places;
      left_is =
          ap (λ (w : List ℕ). left_after piece (w ++ word) rest) gaps
          ∙ (ap (λ (w : List ℕ). left_after piece (gap' ++ w) rest) o.word_is
          ∙ ap (λ (w : List ℕ). left_after piece (gap' ++ word') w) o.rest_is);
      utf8 = rest_utf8 is.form word rest is.longest.formed first;
    }

cons_on : (one two : Token) (tokens others : List Token) (left left' : Piece) → one ≡ two
    → GoesOn tokens others left left' → GoesOn (one ∷ tokens) (two ∷ others) left left'
cons_on one two tokens others left left' e g =
    record { more = g.more; whole = rw e (ap (λ (w : List Token). two ∷ w) g.whole); spelled = g.spelled }

cons_either : (one two : Token) (tokens others : List Token) (left left' : Piece) → one ≡ two
    → GoesOn tokens others left left' ⊎ GoesOn others tokens left' left
    → GoesOn (one ∷ tokens) (two ∷ others) left left' ⊎ GoesOn (two ∷ others) (one ∷ tokens) left' left
cons_either one two tokens others left left' e (inl g) = inl (cons_on one two tokens others left left' e g)
cons_either one two tokens others left left' e (inr g) = inr (cons_on two one others tokens left' left (sym e) g)

-- of two readings of a piece, one goes on from the other
pub goes_on : (piece : Piece) (tokens others : List Token) (left left' : Piece) → IsUtf8 piece.text
    → AreTokens piece tokens left → AreTokens piece others left'
    → GoesOn tokens others left left' ⊎ GoesOn others tokens left' left
goes_on piece [] others left left' utf8 a b =
    inl (record { more = others; whole = refl; spelled = subst (λ (p : Piece). AreTokens p others left') a b })
goes_on piece (one ∷ tokens) [] left left' utf8 a b =
    inr (record {
      more = one ∷ tokens;
      whole = refl;
      spelled = subst (λ (p : Piece). AreTokens p (one ∷ tokens) left) b a;
    })
goes_on piece (one ∷ tokens) (two ∷ others) left left' utf8 a b =
    let same = same_first piece one two a.0 a.1 a.2 b.0 b.1 b.2 utf8 a.3 a.4 a.5 b.3 b.4 b.5 in
    let next : AreTokens (left_after piece (a.0 ++ a.1) a.2) others left' =
    subst (λ (p : Piece). AreTokens p others left') (sym same.left_is) b.6 in
    cons_either one two tokens others left left' same.token_is
    (goes_on (left_after piece (a.0 ++ a.1) a.2) tokens others left left' same.utf8 a.6 next)

-- after the last gap there is no token
pub no_more : (left : Piece) (more : List Token) (end : Piece) → IsLastGap left.text → AreTokens left more end
    → more ≡ []
no_more left [] end last are = refl
no_more left (token ∷ more) end last are =
    let none : skip_gap false left.text ≡ [] = last_skipped false left.text last in
    let here : skip_gap false left.text ≡ are.1 ++ are.2 =
    skipped_to left.text are.0 are.1 are.2 are.5.form are.3 are.4 are.5.longest.formed in
    absurd (token_some are.5.form are.1 are.2 are.5.longest.formed (sym here ∙ none))

no_more_on : (tokens others : List Token) (left left' : Piece) → IsLastGap left.text
    → GoesOn tokens others left left' → others ≡ tokens
no_more_on tokens others left left' last g =
    g.whole ∙ (ap (λ (w : List Token). tokens ++ w) (no_more left g.more left' last g.spelled) ∙ append_nil tokens)

either_same : (tokens others : List Token) (left left' : Piece) → IsLastGap left.text → IsLastGap left'.text
    → GoesOn tokens others left left' ⊎ GoesOn others tokens left' left → tokens ≡ others
either_same tokens others left left' last last' (inl g) = sym (no_more_on tokens others left left' last g)
either_same tokens others left left' last last' (inr g) = no_more_on others tokens left' left last' g

pub piece_once : (piece : Piece) (tokens others : List Token) → IsPieceOf piece tokens → IsPieceOf piece others
    → tokens ≡ others
piece_once piece tokens others a b =
    either_same tokens others a.left b.left a.ended b.ended
    (goes_on piece tokens others a.left b.left a.utf8 a.spelled b.spelled)

-- pieces have at most one list of tokens
pub once : (pieces : List Piece) (tokens others : List Token) → Lexes pieces tokens → Lexes pieces others
    → tokens ≡ others
once [] tokens others a b = a ∙ sym b
once (piece ∷ pieces) tokens others a b =
    let here : a.0 ≡ b.0 = piece_once piece a.0 b.0 a.3 b.3 in
    let more : a.1 ≡ b.1 = once pieces a.1 b.1 a.4 b.4 in
    a.2 ∙ (ap (λ (w : List Token). w ++ a.1) here ∙ (ap (λ (w : List Token). b.0 ++ w) more ∙ sym b.2))
