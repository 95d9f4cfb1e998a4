-- Where tokens are refused as an expression.
use Rattle.std.specs.Prelude.{ℕ, List, ⊤}
use Rattle.cat_lex.specs.declared.token.Token.{Token}
use Rattle.cat_tree.specs.declared.expression.Node.{Node}
use Rattle.cat_tree.specs.Spells.{IsFront}
use Rattle.cat_parse_expr.specs.Fronts.{IsSpelled, GoesUpTo, IsTooHigh}
use Rattle.cat_parse_expr.specs.declared.refusal.ParseRefusal.{ParseRefusal}
use Rattle.cat_parse_expr.specs.declared.refusal.ParseRefusal.TheVariants.{Unexpected, TooDeep, Memory}

-- no front of the tokens from the index on spells an expression, of any height
abbrev pub HasNoFront : List Token → (at : ℕ) → Type 0
HasNoFront tokens at = (next : ℕ) → ¬ IsSpelled tokens at next

-- none spells one that isn't too high
abbrev pub HasNoLowFront : List Token → (at : ℕ) → Type 0
HasNoLowFront tokens at = (next : ℕ) (e : Node) → ¬ IsFront tokens at next e

-- what a refusal to read an expression says of the tokens from the index on
abbrev pub HasCause : List Token → (at : ℕ) → ParseRefusal → Type 0
HasCause tokens at (Unexpected place) = GoesUpTo tokens at place × HasNoFront tokens at
HasCause tokens at (TooDeep place) = IsTooHigh tokens at place × HasNoLowFront tokens at
HasCause tokens at Memory = ⊤

-- the same where the reach is asked for: the expression that was read may go on too high
abbrev pub HasReachCause : List Token → (at : ℕ) → ParseRefusal → Type 0
HasReachCause tokens at (Unexpected place) = GoesUpTo tokens at place × HasNoFront tokens at
HasReachCause tokens at (TooDeep place) = IsTooHigh tokens at place
HasReachCause tokens at Memory = ⊤
