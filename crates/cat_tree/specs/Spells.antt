-- Which tokens spell an expression.
use Rattle.std.specs.Prelude.{ℕ, ◌≤◌, List, ◌++◌, length, slice_range}
use Rattle.cat_lex.specs.declared.token.Token.{Token}
use Rattle.cat_tree.specs.Limits.{most_height}
use Rattle.cat_tree.specs.declared.expression.Node.{Node}
use Rattle.cat_tree.specs.Phrase.{IsLevelled, IsSpelling}
use Rattle.cat_tree.specs.Phrase as Phrase
use Rattle.cat_tree.specs.Grammar.{phrase}

-- how high an expression is, parentheses counted
abbrev pub height_of : Node → ℕ
height_of e = Phrase.height (phrase e)

-- the tokens spell the expression: each part stands where it may, and the words and parts follow each other
pub record Spells (e : Node) (tokens : List Token) : Type 0 where
  pub levels : IsLevelled (phrase e)
  pub words : IsSpelling (phrase e) tokens

-- the tokens from one index up to another spell the expression, and it isn't too high
pub record IsFront (tokens : List Token) (at next : ℕ) (e : Node) : Type 0 where
  pub order : at ≤ next
  pub within : next ≤ length tokens
  pub spells : Spells e (slice_range tokens at next)
  pub low : height_of e ≤ most_height

-- the tokens begin the spelling of an expression, of any height
pub record Begins (front : List Token) : Type 0 where
  pub tree : Node
  pub rest : List Token
  pub spells : Spells tree (front ++ rest)
