use Rattle.std.proofs.Common.{◌+◌, ◌*◌, max}
use Rattle.cat_scope.specs.declared.expr.Expr.{size-Expr}
use Rattle.cat_scope.specs.declared.expr.Arm.{size-Arm}
use denote.Param.Weighed.{most}
use Rattle.cat_lower.proofs.types.+typing.Given as goal

abbrev pub decreases-type_of : goal.decreases-type_of
decreases-type_of l = 3 * size-Expr l.e.now

abbrev pub decreases-type_of_field : goal.decreases-type_of_field
decreases-type_of_field l = 3 * size-Expr l.of.now + 2

abbrev pub decreases-type_under : goal.decreases-type_under
decreases-type_under l = 3 * size-Expr l.e.now + 1

abbrev pub decreases-type_of_map : goal.decreases-type_of_map
decreases-type_of_map l = 3 * (max (size-Expr l.list.now) (size-Expr l.body.now)) + 2

abbrev pub decreases-type_of_row : goal.decreases-type_of_row
decreases-type_of_row l = 3 * most size-Expr l.elements.now + 1

abbrev pub decreases-type_of_match : goal.decreases-type_of_match
decreases-type_of_match l = 3 * max (size-Expr l.of.now) (most size-Arm l.arms.now) + 2

abbrev pub decreases-type_of_arm : goal.decreases-type_of_arm
decreases-type_of_arm l = 3 * size-Arm l.arm.now + 1
