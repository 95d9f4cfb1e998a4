-- The reader of expressions in a program.
use Rattle.std.specs.Prelude.{ℕ}
use Rattle.cat_tree.specs.Limits.{most_height}
use Rattle.cat_tree.specs.declared.expression.Node.{Node}
use Rattle.cat_parse_expr.specs.declared.behind.Behind.TheVariants.{Other}
use Rattle.cat_parse_expr.specs.Climbing.{operand}
use Rattle.cat_parse_expr.specs.Reader.{Reader, ◌⨟◌, pure}

-- An expression up to a height is read where nothing longer has begun; where something has, reading stops where that
-- breaks off.
unfoldable pub expression_to : (limit : ℕ) → Reader Node
expression_to limit = operand limit Other 0 ⨟ λ e. pure e.node

-- the same up to the height that one may have
abbrev pub expression : Reader Node
expression = expression_to most_height
