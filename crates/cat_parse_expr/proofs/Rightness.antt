-- Expressions are read rightly, and the longest front that is whole is kept.
use Rattle.std.proofs.Common.{ℕ, ◌≤◌}
use Rattle.cat_parse_expr.specs.Climbing.{operand}
use Rattle.cat_parse_expr.proofs.Common.{Behind, AreRight, IsLow, IsMeasured, operand_row, KeepsWhole}
use Rattle.cat_parse_expr.proofs.Expressions.{operands_read}

pub rightly : (room : ℕ) → AreRight room (operand room)
rightly room = (operands_read room).0

pub keeping : (room : ℕ) (b : Behind) (k bound : ℕ) → k ≤ 9
    → KeepsWhole (IsLow room) bound IsMeasured (operand_row k) (operand room b k)
keeping room = (operands_read room).1
