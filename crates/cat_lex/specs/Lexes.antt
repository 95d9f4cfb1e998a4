-- What it means that pieces of source are tokens, and that they are none.
use Rattle.std.specs.Prelude.{◌≡◌, ◌≢◌, ℕ, false, List, [], ◌∷◌, ◌++◌, Some, None}
use Rattle.std.specs.Str.{IsUtf8}
use Rattle.cat_pos.specs.declared.pos.Pos.{Pos}
use Rattle.cat_pos.specs.declared.pos.Piece.{Piece}
use Rattle.cat_lex.specs.declared.form.Form.{Form}
use Rattle.cat_lex.specs.declared.token.Token.{Token}
use Rattle.cat_lex.specs.declared.refusal.LexRefusal.{LexRefusal}
use Rattle.cat_lex.specs.declared.refusal.LexRefusal.TheVariants.{NoToken, LiteralRange, Memory}
use Rattle.cat_lex.specs.Gaps.{IsGap, IsLastGap, begins_gap}
use Rattle.cat_lex.specs.Positions.{position_after}
use Rattle.cat_lex.specs.Forms.{HasForm, IsLongest}
use Rattle.cat_lex.specs.Values.{token_of}

-- the word, at this position and with this rest after it, is the token
pub record IsToken (token : Token) (position : Pos) (word rest : List ℕ) : Type 0 where
  pub form : Form
  pub longest : IsLongest form word rest
  pub kind : token_of form word ≡ Some token.kind
  pub position_is : token.pos ≡ position

-- what is left of a piece after its front
abbrev pub left_after : Piece → List ℕ → List ℕ → Piece
left_after piece front rest = record { text = rest; pos = position_after piece.pos front }

-- the piece is these tokens in order, with a gap before each, and then what is left of it
abbrev pub AreTokens : Piece → List Token → Piece → Type 0
AreTokens piece [] left = piece ≡ left
AreTokens piece (token ∷ tokens) left =
    (gap word rest : List ℕ) × (piece.text ≡ gap ++ (word ++ rest)) × IsGap gap
    × IsToken token (position_after piece.pos gap) word rest
    × AreTokens (left_after piece (gap ++ word) rest) tokens left

-- the piece, whose text is UTF-8, is these tokens and then a last gap
pub record IsPieceOf (piece : Piece) (tokens : List Token) : Type 0 where
  pub utf8 : IsUtf8 piece.text
  pub left : Piece
  pub spelled : AreTokens piece tokens left
  pub ended : IsLastGap left.text

-- the pieces, one after the other, are these tokens
abbrev pub Lexes : List Piece → List Token → Type 0
Lexes [] tokens = tokens ≡ []
Lexes (piece ∷ pieces) tokens =
    (here more : List Token) × (tokens ≡ here ++ more) × IsPieceOf piece here × Lexes pieces more

-- no token begins the text, whatever its form
abbrev pub BeginsNoToken : List ℕ → Type 0
BeginsNoToken text = (form : Form) (word rest : List ℕ) → text ≡ word ++ rest → HasForm form word rest → ⊥

-- the longest token that begins the text by its form passes its bound
pub record PassesBound (text : List ℕ) : Type 0 where
  pub form : Form
  pub word : List ℕ
  pub rest : List ℕ
  pub spelled : text ≡ word ++ rest
  pub longest : IsLongest form word rest
  pub out_of_bound : token_of form word ≡ None

-- the piece is tokens up to a position, where neither a blank nor a comment comes, and the fault is in what is left
-- there
pub record FailsIn (piece : Piece) (position : Pos) (HasFault : List ℕ → Type 0) : Type 0 where
  pub tokens : List Token
  pub left : Piece
  pub spelled : AreTokens piece tokens left
  pub gap : List ℕ
  pub rest : List ℕ
  pub split : left.text ≡ gap ++ rest
  pub skipped : IsGap gap
  pub some : rest ≢ []
  pub no_gap : begins_gap rest ≡ false
  pub position_is : position ≡ position_after left.pos gap
  pub fault : HasFault rest

-- the first pieces are tokens, and the next one is so up to this position
pub record FailsAt (pieces : List Piece) (position : Pos) (HasFault : List ℕ → Type 0) : Type 0 where
  pub before : List Piece
  pub piece : Piece
  pub after : List Piece
  pub split : pieces ≡ before ++ (piece ∷ after)
  pub tokens : List Token
  pub lexed : Lexes before tokens
  pub fails : FailsIn piece position HasFault

-- why the pieces are no tokens
abbrev pub HasCause : List Piece → LexRefusal → Type 0
HasCause pieces (NoToken position) = FailsAt pieces position BeginsNoToken
HasCause pieces (LiteralRange position) = FailsAt pieces position PassesBound
HasCause pieces Memory = Unit {0}
