-- The condition of a block as a line of its own.
use Rattle.std.specs.Prelude.{List, [], Option, None, Some, Ok}
use Rattle.cat_tree.specs.declared.expression.Node.{Node}
use Rattle.cat_scope.specs.Names.{Names}
use Rattle.cat_names.specs.Definitions.{condition_meant}
use Rattle.cat_names.specs.Found.{Found, and_then}
use Rattle.cat_names.specs.Lines.{Line, Condition, condition_lines, one}
use Rattle.cat_check_exprs.specs.declared.known.BlockCondition.{BlockCondition}

-- the line that a block's condition is, where it has one
abbrev pub condition_found : Names → Option Node → Found (List Line)
condition_found ns block = and_then (condition_meant ns block []) (λ x. Ok (condition_lines x))

-- the same of a condition that is shared
abbrev pub block_line : Option BlockCondition → List Line
block_line None = []
block_line (Some b) = one (Condition b.expr)
