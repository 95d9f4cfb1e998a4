-- When a reader is right for rows: what it reads is spelled so, and nothing else begins with the tokens that it saw.
use Rattle.std.specs.Prelude.{ℕ, ◌≡◌, ◌≤◌, Bool, true, false, List, [], ◌∷◌, ◌++◌, length}
use Rattle.cat_lex.specs.declared.token.Token.{Token}
use Rattle.cat_lex.specs.declared.token.TokenKind.{TokenKind}
use Rattle.cat_tree.specs.Phrase.{Parts, AreLevelled, AreSpelled}
use Rattle.cat_parse_expr.specs.Reader.{Parsed, Reader, Fails, Reads, left_of}

-- the same token next, or none
abbrev pub Agree : List Token → List Token → Type 0
Agree [] [] = Unit {0}
Agree [] (q ∷ qs) = ⊥
Agree (p ∷ ps) [] = ⊥
Agree (p ∷ ps) (q ∷ qs) = p ≡ q

-- the same token next, or none; and the same behind it, where it is one that a reader looks past
abbrev pub AgreePast : (TokenKind → Bool) → List Token → List Token → Type 0
AgreePast looks [] [] = Unit {0}
AgreePast looks [] (q ∷ qs) = ⊥
AgreePast looks (p ∷ ps) [] = ⊥
AgreePast looks (p ∷ ps) (q ∷ qs) = (p ≡ q) × (looks p.kind ≡ true → Agree ps qs)

-- Others begin with the tokens that a reader saw where it ended. Where it read to its end, it may have looked past one.
abbrev pub Seen : {B : Type 0} → (TokenKind → Bool) → Parsed B → List Token → Type 0
Seen looks (Fails left deep front) others = Agree left others
Seen looks (Reads x left) others = AgreePast looks left others

-- the tokens spell the row of a value
pub record Is {B : Type 0} (fits : B → Type 0) (row : B → Parts) (y : B) (tokens : List Token) : Type 0 where
  pub fit : fits y
  pub levels : AreLevelled (row y)
  pub spelled : AreSpelled (row y) tokens

-- the tokens begin the row of some value
pub record Begun {B : Type 0} (fits : B → Type 0) (row : B → Parts) (front : List Token) : Type 0 where
  pub value : B
  pub more : List Token
  pub is : Is fits row value (front ++ more)

-- the tokens up to and with the next one begin the row of some value
pub record Further {B : Type 0} (fits : B → Type 0) (row : B → Parts) (front left : List Token) : Type 0 where
  pub next : Token
  pub after : List Token
  pub text : left ≡ next ∷ after
  pub begun : Begun fits row (front ++ next ∷ [])

-- what was taken of the tokens, by a reader of values that are low
abbrev pub Took : {B : Type 0} → (low fits : B → Type 0) → (B → Parts) → Parsed B → List Token → Type 0
Took low fits row (Fails left false whole) front = Begun fits row front
Took low fits row (Fails left true whole) front = Further fits row front left
Took low fits row (Reads y left) front = Is fits row y front × low y

-- what was taken are tokens in front, and the rest is left
pub record Taken {B : Type 0} (low fits : B → Type 0) (row : B → Parts) (o : Parsed B) (ts : List Token) : Type 0 where
  pub front : List Token
  pub text : ts ≡ front ++ left_of o
  pub took : Took low fits row o front

-- what a parse says of a value whose row begins with the same tokens
abbrev pub Says : {B : Type 0} → (low : B → Type 0) → Parsed B → B → (spelling front : List Token) → Type 0
Says low (Fails left false whole) y spelling front = ⊥
Says low (Fails left true whole) y spelling front = low y → ⊥
Says low (Reads x left) y spelling front = (y ≡ x) × (spelling ≡ front)

-- tokens that go on as those which were read, as far as the reader saw, and behind which stands what may follow a value
pub record Alike {B : Type 0} (out : B → List Token → Type 0) (looks : TokenKind → Bool) (fits : B → Type 0)
    (row : B → Parts) (o : Parsed B) (front : List Token) (y : B) (spelling : List Token) : Type 0 where
  pub others : List Token
  pub behind : List Token
  pub seen : Seen looks o others
  pub is : Is fits row y spelling
  pub outside : out y behind
  pub text : spelling ++ behind ≡ front ++ others

-- A reader is right for rows of low values: something has one; what was taken is what it was taken for; and another
-- value whose row begins with the tokens that it saw is no other.
pub record IsRight {B : Type 0} (low : B → Type 0) (bound : ℕ) (out : B → List Token → Type 0)
    (looks : TokenKind → Bool) (fits : B → Type 0) (row : B → Parts) (r : Reader B) : Type 0 where
  pub alive : Begun fits row []
  pub taken : (ts : List Token) → length ts ≤ bound → Taken low fits row (r ts) ts
  pub says : (ts front : List Token) (y : B) (spelling : List Token) → length ts ≤ bound → ts ≡ front ++ left_of (r ts)
      → Alike out looks fits row (r ts) front y spelling → Says low (r ts) y spelling front
