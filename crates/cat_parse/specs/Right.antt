-- When a reader is right for rows up to a height, before the words that may follow one.
use Rattle.std.specs.Prelude.{ℕ, ◌≡◌, ◌≤◌, Bool, true, false, List, [], ◌∷◌}
use Rattle.cat_lex.specs.declared.token.Token.{Token}
use Rattle.cat_lex.specs.declared.token.TokenKind.{TokenKind}
use Rattle.cat_tree.specs.Phrase.{Parts, tallest}
use Rattle.cat_parse_expr.specs.Reader.{Reader}
use Rattle.cat_parse_expr.specs.Right.{IsRight}

-- nothing follows, or a word that may
abbrev pub Outside : (TokenKind → Bool) → List Token → Type 0
Outside out [] = Unit {0}
Outside out (p ∷ ps) = out p.kind ≡ true

-- the same, whatever it follows
abbrev pub Before : {B : Type 0} → (TokenKind → Bool) → B → List Token → Type 0
Before out y behind = Outside out behind

-- no expression in the row of a value is higher
abbrev pub IsLow : {B : Type 0} → (limit : ℕ) → (B → Parts) → B → Type 0
IsLow limit row y = tallest (row y) ≤ limit

-- no word is looked past
abbrev pub none_past : TokenKind → Bool
none_past k = false

-- a reader is right for rows up to a height, before the words that may follow one
pub record IsRightTo {B : Type 0} (limit bound : ℕ) (out : TokenKind → Bool) (fits : B → Type 0) (row : B → Parts)
    (r : Reader B) : Type 0 where
  pub right : IsRight (IsLow limit row) bound (Before out) none_past fits row r
