-- What reading a program comes to, exactly.
use Rattle.std.specs.Prelude.{ℕ, ◌≡◌, ◌≤◌, true, false, List, [], ◌∷◌, ◌++◌}
use Rattle.cat_lex.specs.declared.token.Token.{Token}
use Rattle.cat_tree.specs.Limits.{most_height}
use Rattle.cat_tree.specs.declared.expression.Node.{Node}
use Rattle.cat_tree.specs.declared.program.Tree.{Tree}
use Rattle.cat_tree.specs.Phrase.{Parts, End, Part, Operand}
use Rattle.cat_tree.specs.Grammar.{phrase}
use Rattle.cat_tree.specs.Programs.{highest_in, SpellsProgram, SpellsLowProgram, BeginsProgram}
use Rattle.cat_parse_expr.specs.Reader.{Parsed, Reader, Fails, Reads}
use Rattle.cat_parse.specs.Right.{IsRightTo}
use Rattle.cat_parse.specs.Uses.{behind_expression}

-- an expression alone, at any level
abbrev pub expression_row : Node → Parts
expression_row e = Part (Operand 0) (phrase e) End

-- a reader of expressions up to a height is right before the words that may follow one in a program
abbrev pub ReadsExpressionsTo : (limit : ℕ) → Reader Node → Type 0
ReadsExpressionsTo limit ex =
    (bound : ℕ) → IsRightTo limit bound behind_expression (λ e. Unit {0}) expression_row ex

-- the same up to the height that an expression may have
abbrev pub ReadsExpressions : Reader Node → Type 0
ReadsExpressions = ReadsExpressionsTo most_height

-- tokens that spell a program whose expressions are that low spell no other
abbrev pub SpellOneProgram : (limit : ℕ) → Type 0
SpellOneProgram limit =
    (tokens : List Token) (t u : Tree) → SpellsProgram t tokens → SpellsProgram u tokens → highest_in t ≤ limit → t ≡ u

-- the tokens in front begin a program, with the next one they begin none or they are all, and all spell none
pub record Stops (tokens front left : List Token) : Type 0 where
  pub text : tokens ≡ front ++ left
  pub begins : BeginsProgram front
  pub dead : (p : Token) (rest : List Token) → left ≡ p ∷ rest → BeginsProgram (front ++ p ∷ []) → ⊥
  pub none : (t : Tree) → SpellsProgram t tokens → ⊥

-- the tokens in front and the next one begin a program, and none whose expressions are low
pub record IsTooHigh (tokens front left : List Token) : Type 0 where
  pub text : tokens ≡ front ++ left
  pub next : Token
  pub after : List Token
  pub at : left ≡ next ∷ after
  pub begins : BeginsProgram (front ++ next ∷ [])
  pub too_high : (b : BeginsProgram (front ++ next ∷ [])) → highest_in b.tree ≤ most_height → ⊥

-- what a parse says of the tokens
abbrev pub Exactly : List Token → Parsed Tree → Type 0
Exactly tokens (Reads t left) = SpellsLowProgram t tokens × ((u : Tree) → SpellsProgram u tokens → u ≡ t)
Exactly tokens (Fails left false whole) = (front : List Token) × Stops tokens front left
Exactly tokens (Fails left true whole) = (front : List Token) × IsTooHigh tokens front left
