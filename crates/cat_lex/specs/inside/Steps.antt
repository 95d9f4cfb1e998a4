-- One token in front of a text, and one piece: what the steps of the code say.
use Rattle.std.specs.Prelude.{◌≡◌, ◌≢◌, ℕ, false, List, [], ◌++◌}
use Rattle.cat_pos.specs.declared.pos.Pos.{Pos}
use Rattle.cat_pos.specs.declared.pos.Piece.{Piece}
use Rattle.cat_lex.specs.declared.token.Token.{Token}
use Rattle.cat_lex.specs.declared.refusal.LexRefusal.{LexRefusal}
use Rattle.cat_lex.specs.declared.refusal.LexRefusal.TheVariants.{NoToken, LiteralRange, Memory}
use Rattle.cat_lex.specs.Positions.{position_after}
use Rattle.cat_lex.specs.Gaps.{IsGap, IsLastGap, begins_gap}
use Rattle.cat_lex.specs.Lexes.{IsToken, IsPieceOf, BeginsNoToken, PassesBound, FailsIn}

-- the text after its gap, and its position
pub record IsAfterGap (pos : Pos) (text : List ℕ) (position : Pos) (rest : List ℕ) : Type 0 where
  pub gap : List ℕ
  pub split : text ≡ gap ++ rest
  pub whole : rest ≢ [] → IsGap gap
  pub last : rest ≡ [] → IsLastGap text
  pub no_gap : begins_gap rest ≡ false
  pub position_is : position ≡ position_after pos gap

-- the token stands first in the text, and leaves this rest
pub record IsFirst (token : Token) (position : Pos) (text rest : List ℕ) : Type 0 where
  pub word : List ℕ
  pub split : text ≡ word ++ rest
  pub is_token : IsToken token position word rest

-- the tokens of the piece are added
pub record AddsPiece (piece : Piece) (old new : List Token) : Type 0 where
  pub here : List Token
  pub added : new ≡ old ++ here
  pub is_piece : IsPieceOf piece here

-- why a text is refused at this position
abbrev pub HasCauseAt : Pos → List ℕ → LexRefusal → Type 0
HasCauseAt position text (NoToken at) = (at ≡ position) × BeginsNoToken text
HasCauseAt position text (LiteralRange at) = (at ≡ position) × PassesBound text
HasCauseAt position text Memory = Unit {0}

-- why a piece is refused
abbrev pub HasCauseIn : Piece → LexRefusal → Type 0
HasCauseIn piece (NoToken position) = FailsIn piece position BeginsNoToken
HasCauseIn piece (LiteralRange position) = FailsIn piece position PassesBound
HasCauseIn piece Memory = Unit {0}
