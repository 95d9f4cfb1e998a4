-- Where a list of tokens can no longer be an expression.
use Rattle.std.specs.Prelude.{ℕ, suc, ◌≤◌, ◌<◌, List, length, slice_range}
use Rattle.cat_lex.specs.declared.token.Token.{Token}
use Rattle.cat_tree.specs.Limits.{most_height}
use Rattle.cat_tree.specs.declared.expression.Node.{Node}
use Rattle.cat_tree.specs.Spells.{Spells, Begins, height_of}

-- The tokens from one index up to another spell an expression, of any height.
abbrev pub IsSpelled : List Token → (at next : ℕ) → Type 0
IsSpelled tokens at next = (e : Node) × (at ≤ next) × (next ≤ length tokens) × Spells e (slice_range tokens at next)

-- The tokens before the index begin an expression, and with the token there, if one is there, they begin none.
pub record GoesUpTo (tokens : List Token) (at place : ℕ) : Type 0 where
  pub within : place ≤ length tokens
  pub begins : Begins (slice_range tokens at place)
  pub ends : place < length tokens → Begins (slice_range tokens at (suc place)) → ⊥

-- The tokens up to and with that at the index begin an expression, and none of height at most 256.
pub record IsTooHigh (tokens : List Token) (at place : ℕ) : Type 0 where
  pub within : place < length tokens
  pub begins : Begins (slice_range tokens at (suc place))
  pub none_low : (b : Begins (slice_range tokens at (suc place))) → height_of b.tree ≤ most_height → ⊥
