-- Readers of lists of tokens, and how they are put together.
use Rattle.std.specs.Prelude.{Bool, true, false, if◌then◌else◌, ℕ, zero, suc, List, [], ◌∷◌, Option, Some, None}
use Rattle.cat_lex.specs.declared.token.Token.{Token}
use Rattle.cat_lex.specs.declared.token.TokenKind.{TokenKind}

-- What reading comes to: where it broke off, whether for a height alone, and what is left behind the last whole front,
-- if there is one; or what was read and what is left.
pub data Parsed (A : Type 0) : Type 0 where
  Fails : List Token → Bool → Option (List Token) → Parsed A
  Reads : A → List Token → Parsed A

-- what a list of tokens begins with
abbrev pub Reader : Type 0 → Type 0
Reader A = List Token → Parsed A

-- what is left where reading ended
abbrev pub left_of : {A : Type 0} → Parsed A → List Token
left_of (Fails left deep front) = left
left_of (Reads x left) = left

-- a reading, then another
abbrev pub after : {A B : Type 0} → Parsed A → (A → Reader B) → Parsed B
after (Fails left deep front) next = Fails left deep front
after (Reads x left) next = next x left

-- one reader, then another that may depend on what was read
infixr 15 ◌⨟◌
abbrev pub ◌⨟◌ : {A B : Type 0} → Reader A → (A → Reader B) → Reader B
(r ⨟ next) ts = after (r ts) next

-- nothing more is read
abbrev pub pure : {A : Type 0} → A → Reader A
pure x ts = Reads x ts

-- no front is read
abbrev pub nothing : {A : Type 0} → Reader A
nothing ts = Fails ts false None

-- one token, and what is made of it
abbrev pub made_of : {A : Type 0} → Option A → List Token → List Token → Parsed A
made_of None ts rest = Fails ts false None
made_of (Some x) ts rest = Reads x rest

-- one token
abbrev pub one : {A : Type 0} → (Token → Option A) → Reader A
one take [] = Fails [] false None
one take (p ∷ ts) = made_of (take p) (p ∷ ts) ts

-- whether the next token passes a test
abbrev pub heads : (TokenKind → Bool) → List Token → Bool
heads test [] = false
heads test (p ∷ ts) = test p.kind

-- whether the token behind the next one does
abbrev pub heads_second : (TokenKind → Bool) → List Token → Bool
heads_second test [] = false
heads_second test (p ∷ ts) = heads test ts

-- by the next word one reader or another
abbrev pub by_word : {A : Type 0} → (TokenKind → Bool) → Reader A → Reader A → Reader A
by_word test a b ts = if heads test ts then a ts else b ts

-- one turn after another, from what was read so far, for as long as the tokens go on
abbrev pub turns : {A : Type 0} → (A → List Token → Bool) → (A → Reader A) → (fuel : ℕ) → A → Reader A
turns goes turn zero x ts = Reads x ts
turns goes turn (suc fuel) x ts = if goes x ts then after (turn x ts) (turns goes turn fuel) else Reads x ts

-- ---- what stood whole where reading broke off

-- a break within a part that words follow leaves nothing whole
abbrev pub hidden_in : {A : Type 0} → Parsed A → Parsed A
hidden_in (Fails left deep front) = Fails left deep None
hidden_in (Reads x left) = Reads x left

-- the same of a reader
abbrev pub hidden : {A : Type 0} → Reader A → Reader A
hidden r ts = hidden_in (r ts)

-- a break falls back on what stood whole at its latest
abbrev pub latest : Option (List Token) → List Token → Option (List Token)
latest None ts = Some ts
latest (Some front) ts = Some front

-- what stood whole before these tokens stands whole where reading them breaks off
abbrev pub fallen : {A : Type 0} → List Token → Parsed A → Parsed A
fallen ts (Fails left deep front) = Fails left deep (latest front ts)
fallen ts (Reads x left) = Reads x left

-- a reader that stands behind something whole
abbrev pub behind_whole : {A : Type 0} → Reader A → Reader A
behind_whole r ts = fallen ts (r ts)

-- ---- height

-- what would be read breaks off for its height
abbrev pub too_high : {A : Type 0} → List Token → Parsed A → Parsed A
too_high ts (Fails left deep front) = Fails left deep front
too_high ts (Reads x left) = Fails ts true None

-- a word that nothing can follow where there is no room for a part
abbrev pub with_room : {A : Type 0} → (room : ℕ) → Reader A → Reader A
with_room zero r ts = too_high ts (r ts)
with_room (suc room) r ts = r ts
