-- Where a token is refused in pieces, a position behind a front of one of them stands.
use Rattle.std.proofs.Common.{◌≡◌, ◌∙◌, ℕ, List, [], ◌∷◌, ◌++◌, refl, sym, ap, subst, inl, inr, append_assoc, ◌⊎◌}
use Rattle.cat_pos.specs.declared.pos.Pos.{Pos}
use Rattle.cat_pos.specs.declared.pos.Piece.{Piece}
use Rattle.cat_scope.specs.Names.{IsOneOf}
use Rattle.cat_lex.specs.declared.token.Token.{Token}
use Rattle.cat_lex.specs.Positions.{next_position, position_after}
use Rattle.cat_lex.specs.Lexes.{left_after, AreTokens, FailsIn, FailsAt}
use Rattle.cat_lex.proofs.Sequences.{position_after-append}
use Rattle.cat_laws.proofs.Rooms.{Room, room_less, room_or, room_one, room_each, By}

-- a position behind a front of a text that begins at a position
record IsBehind (pos : Pos) (text : List ℕ) (p : Pos) : Type 0 where
  front : List ℕ
  rest : List ℕ
  split : text ≡ front ++ rest
  position : p ≡ position_after pos front

module _ (size : Pos → ℕ) where
  behind_none : (pos p : Pos) → IsBehind pos [] p → p ≡ pos
  behind_none pos p is = by is.front is.split is.position
    where
      by : (front : List ℕ) → [] ≡ front ++ is.rest → p ≡ position_after pos front → p ≡ pos
      by [] split position = position
      by (c ∷ cs) split position = cc split

  behind_some : (pos : Pos) (c : ℕ) (text : List ℕ) (p : Pos) → IsBehind pos (c ∷ text) p
      → (p ≡ pos) ⊎ IsBehind (next_position pos c) text p
  behind_some pos c text p is = by is.front is.split is.position
    where
      by : (front : List ℕ) → c ∷ text ≡ front ++ is.rest → p ≡ position_after pos front
          → (p ≡ pos) ⊎ IsBehind (next_position pos c) text p
      by [] split position = inl position
      by (d ∷ ds) split position =
          let same : d ≡ c = cc split in
          let more : text ≡ ds ++ is.rest = cc split in
          inr (record {
            front = ds;
            rest = is.rest;
            split = more;
            position = position ∙ ap (λ (byte : ℕ). position_after (next_position pos byte) ds) same;
          })

  behind_room : (text : List ℕ) (pos : Pos) → Room size (IsBehind pos text)
  behind_room [] pos = room_less size (IsBehind pos []) (λ p. p ≡ pos) (behind_none pos) (room_one size pos)
  behind_room (c ∷ text) pos =
      room_less size (IsBehind pos (c ∷ text)) (λ p. (p ≡ pos) ⊎ IsBehind (next_position pos c) text p)
      (behind_some pos c text)
      (room_or size (λ p. p ≡ pos) (IsBehind (next_position pos c) text) (room_one size pos)
      (behind_room text (next_position pos c)))

-- what some tokens leave of a piece stands behind a front of it
record LeavesBehind (piece left : Piece) : Type 0 where
  front : List ℕ
  split : piece.text ≡ front ++ left.text
  position : left.pos ≡ position_after piece.pos front

left_behind : (piece : Piece) (tokens : List Token) (left : Piece) → AreTokens piece tokens left
    → LeavesBehind piece left
left_behind piece [] left are =
    record {
      front = [];
      split = ap (λ (p : Piece). p.text) are;
      position = ap (λ (p : Piece). p.pos) (sym are);
    }
left_behind piece (token ∷ tokens) left are =
    let taken = are.0 ++ are.1 in
    let more = left_behind (left_after piece taken are.2) tokens left are.6 in
    record {
      front = taken ++ more.front;
      split = are.3
          ∙ (sym (append_assoc are.0 are.1 are.2)
          ∙ (ap (λ (w : List ℕ). taken ++ w) more.split ∙ sym (append_assoc taken more.front left.text)));
      position = more.position ∙ position_after-append piece.pos taken more.front;
    }

fails_behind : (Fault : List ℕ → Type 0) (piece : Piece) (p : Pos) → FailsIn piece p Fault
    → IsBehind piece.pos piece.text p
fails_behind Fault piece p f =
    let left = left_behind piece f.tokens f.left f.spelled in
    record {
      front = left.front ++ f.gap;
      rest = f.rest;
      split = left.split
          ∙ (ap (λ (w : List ℕ). left.front ++ w) f.split ∙ sym (append_assoc left.front f.gap f.rest));
      position = f.position_is
          ∙ (ap (λ (q : Pos). position_after q f.gap) left.position
          ∙ position_after-append piece.pos left.front f.gap);
    }

between : (before : List Piece) (piece : Piece) (after : List Piece) → IsOneOf piece (before ++ (piece ∷ after))
between [] piece after = inl refl
between (first ∷ before) piece after = inr (between before piece after)

module _ (size : Pos → ℕ) (Fault : List ℕ → Type 0) (pieces : List Piece) where
  abbrev StandsBehind : Piece → Pos → Type 0
  StandsBehind piece p = IsBehind piece.pos piece.text p

  fails_by : (p : Pos) → FailsAt pieces p Fault → By StandsBehind pieces p
  fails_by p f = (
    f.piece,
    subst (λ (ps : List Piece). IsOneOf f.piece ps) (sym f.split) (between f.before f.piece f.after),
    fails_behind Fault f.piece p f.fails,
  )

  -- where a token is refused
  pub fails_room : Room size (λ p. FailsAt pieces p Fault)
  fails_room = room_less size (λ p. FailsAt pieces p Fault) (By StandsBehind pieces) fails_by
      (room_each size StandsBehind (λ piece. behind_room size piece.text piece.pos) pieces)
