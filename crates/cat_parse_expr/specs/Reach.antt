-- The expression that is read, and how far the tokens go on as one.
use Rattle.std.specs.Prelude.{ℕ, ◌≡◌, ◌-◌, Bool, true, false, List, length, take, drop, Some, None, ⊤, Result, Ok, Err}
use Rattle.cat_lex.specs.declared.token.Token.{Token}
use Rattle.cat_tree.specs.declared.expression.Node.{Node}
use Rattle.cat_parse_expr.specs.declared.behind.Behind.TheVariants.{Other}
use Rattle.cat_parse_expr.specs.declared.measured.Measured.{Measured}
use Rattle.cat_parse_expr.specs.declared.refusal.ParseRefusal.{ParseRefusal}
use Rattle.cat_parse_expr.specs.declared.refusal.ParseRefusal.TheVariants.{Unexpected, TooDeep, Memory}
use Rattle.cat_parse_expr.specs.Climbing.{operand}
use Rattle.cat_parse_expr.specs.Reader.{Parsed, Reader, Fails, Reads}

-- where reading broke off with no expression, and whether for its height; or an expression with what follows it and
-- what is left behind its reach
pub data Reach : Type 0 where
  Refused : (left : List Token) → (deep : Bool) → Reach
  Found : Node → (rest left : List Token) → Reach

-- the tokens before those
abbrev pub before : (rest tokens : List Token) → List Token
before rest ts = take (length ts - length rest) ts

-- a whole front, with what is left behind it and behind its reach
abbrev pub front_found : Parsed Measured → (rest left : List Token) → Reach
front_found (Reads e none) rest left = Found e.node rest left
front_found (Fails at deep front) rest left = Refused at deep

-- A front that is whole is read once more; nothing is found where a longer one broke off for its height.
abbrev pub reach_of : Reader Measured → List Token → Parsed Measured → Reach
reach_of r ts (Reads e rest) = Found e.node rest rest
reach_of r ts (Fails left true front) = Refused left true
reach_of r ts (Fails left false None) = Refused left false
reach_of r ts (Fails left false (Some rest)) = front_found (r (before rest ts)) rest left

-- the expression up to a height with which the tokens begin, and its reach
unfoldable pub expression_reach : (limit : ℕ) → List Token → Reach
expression_reach limit ts = reach_of (operand limit Other 0) ts (operand limit Other 0 ts)

-- What a call gives is that, by indices of the tokens; want of memory says nothing.
abbrev pub GivesReach : Reach → List Token → Result (Node × ℕ × ℕ) ParseRefusal → Type 0
GivesReach r tokens (Ok x) = r ≡ Found x.0 (drop x.1 tokens) (drop x.2 tokens)
GivesReach r tokens (Err (Unexpected place)) = r ≡ Refused (drop place tokens) false
GivesReach r tokens (Err (TooDeep place)) = r ≡ Refused (drop place tokens) true
GivesReach r tokens (Err Memory) = ⊤
