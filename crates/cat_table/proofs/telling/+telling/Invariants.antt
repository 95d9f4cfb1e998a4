use Rattle.std.proofs.Common.{◌+◌, ◌*◌, max}
use Rattle.cat_scope.specs.declared.expr.Expr.{size-Expr}
use Rattle.cat_scope.specs.declared.expr.Arm.{size-Arm}
use denote.Param.Weighed.{most}
use Rattle.cat_table.proofs.telling.+telling.Given as goal

abbrev pub decreases-told : goal.decreases-told
decreases-told l = 3 * size-Expr l.e.now

abbrev pub decreases-told_arms : goal.decreases-told_arms
decreases-told_arms l = 3 * max (size-Expr l.of.now) (most size-Arm l.arms.now) + 2

abbrev pub decreases-told_arm : goal.decreases-told_arm
decreases-told_arm l = 3 * size-Arm l.arm.now + 1
