-- Whether pieces are tokens, is decided: reading goes on up to the end, or up to a token that is refused.
use Rattle.std.proofs.Common.{◌≡◌, ◌≢◌, ◌≤◌, ◌<◌, ◌⊎◌, ◌∙◌, ℕ, zero, suc, Bool, true, false, List, [], ◌∷◌, ◌++◌}
use Rattle.std.proofs.Common.{Option, Some, None, length, refl, sym, ap, subst, inl, inr, arith}
use Rattle.std.proofs.lemmas.List.{length-append}
use Rattle.std.proofs.lemmas.Str.{IsUtf8-from_is_utf8, is_utf8-from_IsUtf8}
use Rattle.std.specs.Str.{IsUtf8, is_utf8}
use Rattle.cat_pos.specs.declared.pos.Pos.{Pos}
use Rattle.cat_pos.specs.declared.pos.Piece.{Piece}
use Rattle.cat_lex.specs.declared.form.Form.{Form}
use Rattle.cat_lex.specs.declared.token.Token.{Token}
use Rattle.cat_lex.specs.declared.token.TokenKind.{TokenKind}
use Rattle.cat_lex.specs.declared.refusal.LexRefusal.TheVariants.{NoToken, LiteralRange}
use Rattle.cat_lex.specs.Gaps.{IsGap, IsLastGap, begins_gap}
use Rattle.cat_lex.specs.Positions.{position_after}
use Rattle.cat_lex.specs.Values.{token_of}
use Rattle.cat_lex.specs.Lexes.{IsToken, left_after, AreTokens, IsPieceOf, Lexes, BeginsNoToken, PassesBound, FailsIn}
use Rattle.cat_lex.specs.Lexes.{FailsAt}
use Rattle.cat_lex.specs.inside.Reading.{read, skip_gap}
use Rattle.cat_lex.proofs.GapLemmas.{EndsGap, gap_of, gap_stops, gap_utf8}
use Rattle.cat_lex.proofs.Fronts.{read_longest, read_none}
use Rattle.cat_lex.proofs.FirstTokens.{read_utf8, passes_of}
use Rattle.cat_lex.proofs.Refusals.{refused}
use Rattle.cat_lex.proofs.Sequences.{append_nil, cancel_right}
use Rattle.cat_lex.specs.Forms.{IsLongest}
use Rattle.cat_lex.proofs.Spelled.{word_some}
use Rattle.cat_laws.proofs.Rooms.{Decided}

-- the piece is tokens up to its last gap
record AreAll (piece : Piece) : Type 0 where
  tokens : List Token
  left : Piece
  spelled : AreTokens piece tokens left
  ended : IsLastGap left.text

-- no token begins at some place, or one passes its bound
data IsRefusedIn (piece : Piece) : Type 0 where
  no_token : (position : Pos) → FailsIn piece position BeginsNoToken → IsRefusedIn piece
  passing : (position : Pos) → FailsIn piece position PassesBound → IsRefusedIn piece

abbrev IsRead : Piece → Type 0
IsRead piece = AreAll piece ⊎ IsRefusedIn piece

-- ---- one token in front

module _ (piece : Piece) (token : Token) (gap word rest : List ℕ) (split : piece.text ≡ gap ++ (word ++ rest))
    (skipped : IsGap gap) (is : IsToken token (position_after piece.pos gap) word rest) where
  fails_behind : (Fault : List ℕ → Type 0) (position : Pos)
      → FailsIn (left_after piece (gap ++ word) rest) position Fault → FailsIn piece position Fault
  fails_behind Fault position f = record {
    tokens = token ∷ f.tokens;
    left = f.left;
    spelled = (gap, word, rest, split, skipped, is, f.spelled);
    gap = f.gap;
    rest = f.rest;
    split = f.split;
    skipped = f.skipped;
    some = f.some;
    no_gap = f.no_gap;
    position_is = f.position_is;
    fault = f.fault;
  }

  behind : IsRead (left_after piece (gap ++ word) rest) → IsRead piece
  behind (inl all) = inl (record {
    tokens = token ∷ all.tokens;
    left = all.left;
    spelled = (gap, word, rest, split, skipped, is, all.spelled);
    ended = all.ended;
  })
  behind (inr (no_token position f)) = inr (no_token position (fails_behind BeginsNoToken position f))
  behind (inr (passing position f)) = inr (passing position (fails_behind PassesBound position f))

-- ---- one piece

some_length : (word : List ℕ) → word ≢ [] → 0 < length word
some_length [] some = absurd (some refl)
some_length (c ∷ cs) some = omega arith

-- shorter pieces are read
abbrev AreReadBelow : Piece → Type 0
AreReadBelow piece = (less : Piece) → IsUtf8 less.text → length less.text < length piece.text → IsRead less

module _ (piece : Piece) (further : AreReadBelow piece) (g : EndsGap false piece.text (skip_gap false piece.text))
    (first : List ℕ) (first_is : skip_gap false piece.text ≡ first) (some : first ≢ []) (utf8 : IsUtf8 first) where
  split_is : piece.text ≡ g.gap ++ first
  split_is = g.split ∙ ap (λ (w : List ℕ). g.gap ++ w) first_is

  skipped_is : IsGap g.gap
  skipped_is = g.whole (λ none. some (sym first_is ∙ none))

  fails_here : (Fault : List ℕ → Type 0) → Fault first → FailsIn piece (position_after piece.pos g.gap) Fault
  fails_here Fault fault = record {
    tokens = [];
    left = piece;
    spelled = refl;
    gap = g.gap;
    rest = first;
    split = split_is;
    skipped = skipped_is;
    some = some;
    no_gap = subst (λ (w : List ℕ). begins_gap w ≡ false) first_is (gap_stops false piece.text);
    position_is = refl;
    fault = fault;
  }

  -- a word of a form, which is a token or passes its bound
  by_kind : (form : Form) (word rest : List ℕ) → read first ≡ Some (form, rest) → first ≡ word ++ rest
      → (kind : Option TokenKind) → token_of form word ≡ kind → IsRead piece
  by_kind form word rest is split None kind_is =
      inr (passing (position_after piece.pos g.gap)
      (fails_here PassesBound (passes_of form first word rest utf8 is split kind_is)))
  by_kind form word rest is split (Some kind) kind_is =
      let front = read_longest form first rest utf8 is in
      let same : front.word ≡ word = cancel_right front.word word rest (sym front.split ∙ split) in
      let longest : IsLongest form word rest =
      subst (λ (w : List ℕ). IsLongest form w rest) same front.longest in
      let token : Token = record { kind = kind; pos = position_after piece.pos g.gap } in
      let whole : piece.text ≡ g.gap ++ (word ++ rest) = split_is ∙ ap (λ (w : List ℕ). g.gap ++ w) split in
      let length_is : length piece.text ≡ length (g.gap ++ (word ++ rest)) = ap (λ (w : List ℕ). length w) whole in
      let word_is : 0 < length word = some_length word (word_some form word rest longest.formed) in
      let shorter : length rest < length piece.text =
      omega (arith, length_is, word_is, length-append g.gap (word ++ rest), length-append word rest) in
      behind piece token g.gap word rest whole skipped_is
      (record { form = form; longest = longest; kind = kind_is; position_is = refl })
      (further (left_after piece (g.gap ++ word) rest) (read_utf8 form first rest utf8 is) shorter)

  by_reading : (found : Option (Form × List ℕ)) → read first ≡ found → IsRead piece
  by_reading None is =
      inr (no_token (position_after piece.pos g.gap) (fails_here BeginsNoToken (read_none first utf8 is)))
  by_reading (Some (form, rest)) is =
      let front = read_longest form first rest utf8 is in
      by_kind form front.word rest is front.split (token_of form front.word) refl

at_first : (piece : Piece) → IsUtf8 piece.text → AreReadBelow piece → (first : List ℕ)
    → skip_gap false piece.text ≡ first → IsRead piece
at_first piece utf8 further [] is =
    let g = gap_of false piece.text in
    let all : piece.text ≡ g.gap = g.split ∙ (ap (λ (w : List ℕ). g.gap ++ w) is ∙ append_nil g.gap) in
    inl (record { tokens = []; left = piece; spelled = refl; ended = subst IsLastGap (sym all) g.last })
at_first piece utf8 further (c ∷ cs) is =
    by_reading piece further (gap_of false piece.text) (c ∷ cs) is (λ none. cc none)
    (subst IsUtf8 is (gap_utf8 piece.text utf8)) (read (c ∷ cs)) refl

read_to : (bound : ℕ) (piece : Piece) → IsUtf8 piece.text → length piece.text ≤ bound → IsRead piece
read_to zero piece utf8 short =
    at_first piece utf8 (λ less other shorter. absurd (omega (arith, short, shorter))) (skip_gap false piece.text) refl
read_to (suc bound) piece utf8 short =
    at_first piece utf8 (λ less other shorter. read_to bound less other (omega (arith, short, shorter)))
    (skip_gap false piece.text) refl

-- ---- all pieces

alone : (piece : Piece) (tokens : List Token) → IsPieceOf piece tokens → Lexes (piece ∷ []) tokens
alone piece tokens is = (tokens, [], sym (append_nil tokens), is, refl)

fails_alone : (piece : Piece) (Fault : List ℕ → Type 0) (position : Pos) → FailsIn piece position Fault
    → FailsAt (piece ∷ []) position Fault
fails_alone piece Fault position f =
    record { before = []; piece = piece; after = []; split = refl; tokens = []; lexed = refl; fails = f }

no_piece : (piece : Piece) → IsRefusedIn piece → (tokens : List Token) → IsPieceOf piece tokens → ⊥
no_piece piece (no_token position f) tokens is =
    refused (piece ∷ []) (NoToken position) tokens (λ e. cc e) (fails_alone piece BeginsNoToken position f)
    (alone piece tokens is)
no_piece piece (passing position f) tokens is =
    refused (piece ∷ []) (LiteralRange position) tokens (λ e. cc e) (fails_alone piece PassesBound position f)
    (alone piece tokens is)

-- tokens of a piece
record HasTokens (piece : Piece) : Type 0 where
  tokens : List Token
  is : IsPieceOf piece tokens

by_read : (piece : Piece) → IsUtf8 piece.text → IsRead piece → Decided (HasTokens piece)
by_read piece utf8 (inl all) = inl (record {
  tokens = all.tokens;
  is = record { utf8 = utf8; left = all.left; spelled = all.spelled; ended = all.ended };
})
by_read piece utf8 (inr refusal) = inr (λ has. no_piece piece refusal has.tokens has.is)

piece_decided : (piece : Piece) → Decided (HasTokens piece)
piece_decided piece = by (is_utf8 piece.text) refl
  where
    by : (b : Bool) → is_utf8 piece.text ≡ b → Decided (HasTokens piece)
    by true is =
        let utf8 = IsUtf8-from_is_utf8 piece.text is in
        by_read piece utf8 (read_to (length piece.text) piece utf8 (omega arith))
    by false is = inr (λ has. cc (is, is_utf8-from_IsUtf8 piece.text has.is.utf8))

-- pieces are tokens
pub record AreLexed (pieces : List Piece) : Type 0 where
  pub tokens : List Token
  pub lexed : Lexes pieces tokens

both_decided : (piece : Piece) (pieces : List Piece) → Decided (HasTokens piece) → Decided (AreLexed pieces)
    → Decided (AreLexed (piece ∷ pieces))
both_decided piece pieces (inl here) (inl more) = inl (record {
  tokens = here.tokens ++ more.tokens;
  lexed = (here.tokens, more.tokens, refl, here.is, more.lexed);
})
both_decided piece pieces (inl here) (inr none) =
    inr (λ has. none (record { tokens = has.lexed.1; lexed = has.lexed.4 }))
both_decided piece pieces (inr none) more = inr (λ has. none (record { tokens = has.lexed.0; is = has.lexed.3 }))

pub lexed_decided : (pieces : List Piece) → Decided (AreLexed pieces)
lexed_decided [] = inl (record { tokens = []; lexed = refl })
lexed_decided (piece ∷ pieces) = both_decided piece pieces (piece_decided piece) (lexed_decided pieces)
