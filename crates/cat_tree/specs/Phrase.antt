-- A phrase: a row of words and smaller phrases; how high it is, where it may stand, and which tokens spell it.
use Rattle.std.specs.Prelude.{ℕ, suc, ◌≤◌, ◌≡◌, max, Bool, true, false, ◌||◌, if◌then◌else◌, List, [], ◌∷◌, ◌++◌}
use Rattle.cat_pos.specs.declared.pos.Pos.{Pos}
use Rattle.cat_lex.specs.declared.token.Token.{Token}
use Rattle.cat_lex.specs.declared.token.TokenKind.{TokenKind}

-- a word of a phrase: a token at a position that the tree keeps, or anywhere
pub data Terminal : Type 0 where
  At : TokenKind → Pos → Terminal
  Anywhere : TokenKind → Terminal

-- what else counts of a phrase: the level at which it may stand as an operand, whether it is a form or a
-- match, and whether its values are within their bounds
pub record Rank : Type 0 where
  pub level : ℕ
  pub form : Bool
  pub is_match : Bool
  pub fits : Bool

-- how a part stands: as an operand of some level or more, as a left operand, or in an arm that isn't the last
pub data Stand : Type 0 where
  Operand : ℕ → Stand
  Left : ℕ → Stand
  Inner : Stand

mutual
  pub data Phrase : Type 0 where
    Row : Rank → Parts → Phrase

  pub data Parts : Type 0 where
    End : Parts
    Word : Terminal → Parts → Parts
    Part : Stand → Phrase → Parts → Parts

-- A phrase without parts has height 1, and every other one more than its highest part.
abbrev mutual
  pub height : Phrase → ℕ
  height (Row r ps) = suc (tallest ps)

  pub tallest : Parts → ℕ
  tallest End = 0
  tallest (Word m ps) = tallest ps
  tallest (Part s e ps) = max (height e) (tallest ps)

-- A phrase ends in a form where it is one, or where its last part ends in one and no word follows.
abbrev mutual
  pub ends_in_form : Phrase → Bool
  ends_in_form (Row r ps) = r.form || last_in_form false ps

  pub last_in_form : Bool → Parts → Bool
  last_in_form b End = b
  last_in_form b (Word m ps) = last_in_form false ps
  last_in_form b (Part s e ps) = last_in_form (ends_in_form e) ps

abbrev mutual
  pub ends_in_match : Phrase → Bool
  ends_in_match (Row r ps) = r.is_match || last_in_match false ps

  pub last_in_match : Bool → Parts → Bool
  last_in_match b End = b
  last_in_match b (Word m ps) = last_in_match false ps
  last_in_match b (Part s e ps) = last_in_match (ends_in_match e) ps

-- as what level it stands as a right operand
abbrev pub right_strength : Phrase → ℕ
right_strength (Row r ps) = r.level

-- A phrase that ends in a form isn't a left operand.
abbrev pub left_strength : Phrase → ℕ
left_strength e = if ends_in_form e then 0 else right_strength e

-- whether a part may stand so
abbrev pub Stands : Stand → Phrase → Type 0
Stands (Operand k) e = k ≤ right_strength e
Stands (Left k) e = k ≤ left_strength e
Stands Inner e = ends_in_match e ≡ false

abbrev mutual
  pub IsLevelled : Phrase → Type 0
  IsLevelled (Row r ps) = (r.fits ≡ true) × AreLevelled ps

  pub AreLevelled : Parts → Type 0
  AreLevelled End = Unit {0}
  AreLevelled (Word m ps) = AreLevelled ps
  AreLevelled (Part s e ps) = Stands s e × IsLevelled e × AreLevelled ps

-- the token is that terminal, at its position where that is kept
abbrev pub IsAt : Terminal → Token → Type 0
IsAt (At kind pos) t = t ≡ record { kind = kind; pos = pos }
IsAt (Anywhere kind) t = t.kind ≡ kind

-- the tokens that spell a phrase: its words and the spellings of its parts, in order
abbrev mutual
  pub IsSpelling : Phrase → List Token → Type 0
  IsSpelling (Row r ps) tokens = AreSpelled ps tokens

  pub AreSpelled : Parts → List Token → Type 0
  AreSpelled End tokens = tokens ≡ []
  AreSpelled (Word m ps) tokens =
      (t : Token) × (rest : List Token) × (tokens ≡ t ∷ rest) × IsAt m t × AreSpelled ps rest
  AreSpelled (Part s e ps) tokens =
      (front rest : List Token) × (tokens ≡ front ++ rest) × IsSpelling e front × AreSpelled ps rest
