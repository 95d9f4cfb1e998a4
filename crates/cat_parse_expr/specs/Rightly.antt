-- When expressions are read rightly.
use Rattle.std.specs.Prelude.{ℕ, ◌≡◌, ◌≤◌}
use Rattle.cat_tree.specs.declared.expression.Node.{Node}
use Rattle.cat_tree.specs.Phrase.{Parts, End, Part, Operand, left_strength, ends_in_match}
use Rattle.cat_tree.specs.Grammar.{phrase}
use Rattle.cat_tree.specs.Spells.{height_of}
use Rattle.cat_parse_expr.specs.declared.behind.Behind.{Behind}
use Rattle.cat_parse_expr.specs.declared.measured.Measured.{Measured}
use Rattle.cat_parse_expr.specs.Followers.{MayFollow, looks_of}
use Rattle.cat_parse_expr.specs.Parts.{Lower}
use Rattle.cat_parse_expr.specs.Right.{IsRight}

-- an expression with what counts of it
abbrev pub measured_of : Node → Measured
measured_of n = record {
  node = n;
  height = height_of n;
  strength = left_strength (phrase n);
  in_match = ends_in_match (phrase n);
}

-- what counts of it is told rightly
abbrev pub IsMeasured : Measured → Type 0
IsMeasured y = y ≡ measured_of y.node

-- it isn't too high
abbrev pub IsLow : (room : ℕ) → Measured → Type 0
IsLow room y = y.height ≤ room

-- an expression alone, at a level
abbrev pub operand_row : (k : ℕ) → Measured → Parts
operand_row k y = Part (Operand k) (phrase y.node) End

-- Readers of operands up to a height are right, at each level and before whatever may follow.
abbrev pub AreRight : (room : ℕ) → Lower → Type 0
AreRight room ex =
    (b : Behind) (k bound : ℕ) → k ≤ 9
    → IsRight (IsLow room) bound (MayFollow b k) (looks_of b) IsMeasured (operand_row k) (ex b k)
