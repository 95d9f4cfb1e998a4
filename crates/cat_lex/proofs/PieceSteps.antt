-- One token of a piece after the other.
use Rattle.std.proofs.Common.{◌≡◌, ◌≢◌, ℕ, ◌==◌, Bool, false, List, [], ◌∷◌, ◌++◌, ◌<◌, ◌+◌, take, drop, get_or}
use Rattle.std.proofs.Common.{drop-cons, add-one, length, refl, sym, ap, ◌∙◌, subst, arith, append_assoc}
use Rattle.std.specs.Str.{IsUtf8}
use Rattle.std.proofs.lemmas.List.{length-append, take-append-drop, take_more}
use Rattle.cat_pos.specs.declared.pos.Pos.{Pos}
use Rattle.cat_pos.specs.declared.pos.Piece.{Piece}
use Rattle.cat_lex.specs.declared.token.Token.{Token}
use Rattle.cat_lex.specs.declared.refusal.LexRefusal.{LexRefusal}
use Rattle.cat_lex.specs.declared.refusal.LexRefusal.TheVariants.{NoToken, LiteralRange, Memory}
use Rattle.cat_lex.specs.Positions.{position_after}
use Rattle.cat_lex.specs.Gaps.{IsLastGap, begins_gap}
use Rattle.cat_lex.specs.Lexes.{IsToken, AreTokens, IsPieceOf, Lexes, HasCause}
use Rattle.cat_lex.specs.inside.Steps.{AddsPiece, IsAfterGap, IsFirst, HasCauseIn}
use Rattle.cat_lex.specs.inside.Reading.{skip_gap}
use Rattle.cat_lex.proofs.GapLemmas.{gap_of, gap_stops, gap_skipped, gap_utf8}
use Rattle.cat_lex.proofs.Skips.{not_true}
use Rattle.cat_lex.proofs.Spelled.{word_some, rest_utf8}
use Rattle.cat_lex.proofs.Sequences.{append_nil, position_after-append, one_more, cancel_right}

-- what is left of a piece
abbrev pub left : List ℕ → Pos → Piece
left text pos = record { text = text; pos = pos }

pub gap_suffix : (text rest : List ℕ) → rest ≡ skip_gap false text → (front : List ℕ) × (text ≡ front ++ rest)
gap_suffix text rest is = let g = gap_of false text in (g.gap, g.split ∙ ap (λ (w : List ℕ). g.gap ++ w) (sym is))

pub after_gap_step : (pos position : Pos) (text rest front : List ℕ) → rest ≡ skip_gap false text → text ≡ front ++ rest
    → position ≡ position_after pos front → IsAfterGap pos text position rest
after_gap_step pos position text rest front is split position_is =
    let g = gap_of false text in
    let rested : skip_gap false text ≡ rest = sym is in
    let gap : g.gap ≡ front = cancel_right g.gap front rest
    (ap (λ (w : List ℕ). g.gap ++ w) is ∙ (sym g.split ∙ split)) in
    record {
      gap = g.gap;
      split = split ∙ ap (λ (w : List ℕ). w ++ rest) (sym gap);
      whole = λ some. g.whole (λ none. some (is ∙ none));
      last =
          λ none. subst IsLastGap (sym
          (split ∙ (ap (λ (w : List ℕ). front ++ w) none ∙ (append_nil front ∙ sym gap)))) g.last;
      no_gap = ap begins_gap is ∙ gap_stops false text;
      position_is = position_is ∙ ap (λ (w : List ℕ). position_after pos w) (sym gap);
    }

pub next_token : (piece : Piece) (tokens : List Token) (text : List ℕ) (pos position next : Pos) (token : Token)
    (first rest front : List ℕ) → AreTokens piece tokens (left text pos) → IsAfterGap pos text position first
    → first ≢ []
    → IsFirst token position first rest → first ≡ front ++ rest → next ≡ position_after position front
    → AreTokens piece (tokens ++ (token ∷ [])) (left rest next)
next_token piece tokens text pos position next token first rest front are gap some is split next_is =
    let word : is.word ≡ front = cancel_right is.word front rest (sym is.split ∙ split) in
    let whole : text ≡ gap.gap ++ (is.word ++ rest) = gap.split ∙ ap (λ (w : List ℕ). gap.gap ++ w) is.split in
    let token_is : IsToken token (position_after pos gap.gap) is.word rest =
    subst (λ (p : Pos). IsToken token p is.word rest) gap.position_is is.is_token in
    let more = one_more piece tokens (left text pos) token gap.gap is.word rest are whole
    (gap.whole some) token_is in
    let position_is : position_after pos (gap.gap ++ is.word) ≡ next =
    sym (position_after-append pos gap.gap is.word)
    ∙ (ap (λ (p : Pos). position_after p is.word) (sym gap.position_is)
    ∙ (ap (λ (w : List ℕ). position_after position w) word ∙ sym next_is)) in
    subst (λ (p : Pos). AreTokens piece (tokens ++ (token ∷ [])) (left rest p)) position_is more

some_length : (word : List ℕ) → word ≢ [] → 0 < length word
some_length [] some = absurd (some refl)
some_length (c ∷ cs) some = omega arith

-- each token takes some of the text
pub first_shorter : (token : Token) (pos position : Pos) (text first rest : List ℕ)
    → IsAfterGap pos text position first → IsFirst token position first rest → length rest < length text
first_shorter token pos position text first rest gap is =
    let some : 0 < length is.word =
    some_length is.word (word_some is.is_token.form is.word rest is.is_token.longest.formed) in
    let one : length text ≡ length (gap.gap ++ first) = ap (λ (w : List ℕ). length w) gap.split in
    let two : length first ≡ length (is.word ++ rest) = ap (λ (w : List ℕ). length w) is.split in
    omega (arith, some, one, two, length-append gap.gap first, length-append is.word rest)

pub some_first : (text : List ℕ) (empty : Bool) → empty ≡ (length text == 0) → empty ≡ false → text ≢ []
some_first text empty is h none =
    let none_left : length text ≡ 0 =
    ap (λ (w : List ℕ). length w) none in absurd (not_true empty (is ∙ rw none_left refl) h)

pub next_utf8 : (token : Token) (pos position : Pos) (text first rest : List ℕ) → IsUtf8 text
    → IsAfterGap pos text position first → first ≢ [] → IsFirst token position first rest → IsUtf8 rest
next_utf8 token pos position text first rest utf8 gap some is =
    let skipped : skip_gap false text ≡ first =
    ap (skip_gap false) gap.split ∙ gap_skipped false gap.gap first (gap.whole some) gap.no_gap in
    let here : IsUtf8 (is.word ++ rest) = subst IsUtf8 (skipped ∙ is.split) (gap_utf8 text utf8) in
    rest_utf8 is.is_token.form is.word rest is.is_token.longest.formed here

pub lexes_more : (before : List Piece) (tokens : List Token) (piece : Piece) (here : List Token) → Lexes before tokens
    → IsPieceOf piece here → Lexes (before ++ (piece ∷ [])) (tokens ++ here)
lexes_more [] tokens piece here lexed is =
    (here, [], ap (λ (w : List Token). w ++ here) lexed ∙ sym (append_nil here), is, refl)
lexes_more (first ∷ before) tokens piece here lexed is = (
  lexed.0,
  lexed.1 ++ here,
  ap (λ (w : List Token). w ++ here) lexed.2
      ∙ append_assoc lexed.0 lexed.1 here,
  lexed.3,
  lexes_more before lexed.1 piece here lexed.4 is,
)

pub fails_at : (pieces before : List Piece) (piece : Piece) (after : List Piece) (tokens : List Token)
    (refusal : LexRefusal) → pieces ≡ before ++ (piece ∷ after) → Lexes before tokens → HasCauseIn piece refusal
    → HasCause pieces refusal
fails_at pieces before piece after tokens (NoToken at) split lexed cause =
    record {
      before = before;
      piece = piece;
      after = after;
      split = split;
      tokens = tokens;
      lexed = lexed;
      fails = cause;
    }
fails_at pieces before piece after tokens (LiteralRange at) split lexed cause =
    record {
      before = before;
      piece = piece;
      after = after;
      split = split;
      tokens = tokens;
      lexed = lexed;
      fails = cause;
    }
fails_at pieces before piece after tokens Memory split lexed cause = cause

-- the pieces before one, that one, and the others
pub split_pieces : (pieces : List Piece) (i : ℕ) (piece : Piece) → i < length pieces → piece ≡ get_or pieces i piece
    → pieces ≡ take i pieces ++ (piece ∷ drop (i + 1) pieces)
split_pieces pieces i piece below is =
    sym (take-append-drop i pieces)
    ∙ ap (λ (w : List Piece). take i pieces ++ w) (at_drop ∙ ap (λ (p : Piece). p ∷ drop (i + 1) pieces) (sym is))
  where
    at_drop : drop i pieces ≡ get_or pieces i piece ∷ drop (i + 1) pieces
    at_drop = rw (add-one, drop-cons pieces i piece) refl

pub one_piece_more : (pieces : List Piece) (old new : List Token) (i : ℕ) (piece : Piece) → i < length pieces
    → piece ≡ get_or pieces i piece → Lexes (take i pieces) old → AddsPiece piece old new
    → Lexes (take (i + 1) pieces) new
one_piece_more pieces old new i piece below is lexed adds =
    let more : take (i + 1) pieces ≡ take i pieces ++ (piece ∷ []) =
    take_more pieces i piece below ∙ ap (λ (p : Piece). take i pieces ++ (p ∷ [])) (sym is) in
    subst (λ (w : List Token). Lexes (take (i + 1) pieces) w) (sym adds.added)
    (subst (λ (w : List Piece). Lexes w (old ++ adds.here)) (sym more)
    (lexes_more (take i pieces) old piece adds.here lexed adds.is_piece))

-- the tokens since the first, and what is left of the piece
pub record HasAdded (piece : Piece) (old tokens : List Token) (text : List ℕ) (pos : Pos) : Type 0 where
  pub here : List Token
  pub added : tokens ≡ old ++ here
  pub spelled : AreTokens piece here (left text pos)

pub one_added : (piece : Piece) (old tokens new : List Token) (text : List ℕ) (pos position next : Pos) (token : Token)
    (first rest front : List ℕ) → HasAdded piece old tokens text pos → IsAfterGap pos text position first
    → first ≢ []
    → IsFirst token position first rest → first ≡ front ++ rest → next ≡ position_after position front
    → new ≡ tokens ++ (token ∷ []) → HasAdded piece old new rest next
one_added piece old tokens new text pos position next token first rest front has gap some is split next_is new_is =
    record {
      here = has.here ++ (token ∷ []);
      added = new_is ∙ (ap (λ (w : List Token). w ++ (token ∷ [])) has.added ∙ append_assoc old has.here (token ∷ []));
      spelled =
          next_token piece has.here text pos position next token first rest front has.spelled gap some is split next_is;
    }
