use Rattle.std.proofs.Common.{◌≡◌, ◌+◌, ◌*◌, max, take}
use Rattle.cat_scope.specs.declared.expr.Expr.{size-Expr}
use Rattle.cat_scope.specs.declared.expr.Arm.{size-Arm}
use Rattle.cat_scope.specs.declared.expr.FieldValue.{size-FieldValue}
use denote.Param.Weighed.{most}
use Rattle.cat_scope.proofs.copying.+copy.Given as goal

abbrev pub decreases-copy_expr : goal.decreases-copy_expr
decreases-copy_expr l = 3 * size-Expr l.expr.now

abbrev pub decreases-copy_all : goal.decreases-copy_all
decreases-copy_all l = 3 * most size-Expr l.exprs.now + 1

abbrev pub decreases-copy_fields : goal.decreases-copy_fields
decreases-copy_fields l = 3 * most size-FieldValue l.fields.now + 1

abbrev pub decreases-copy_arms : goal.decreases-copy_arms
decreases-copy_arms l = 3 * most size-Arm l.arms.now + 1

abbrev pub decreases-copy_call : goal.decreases-copy_call
decreases-copy_call l = 3 * most size-FieldValue l.of.now + 2

abbrev pub decreases-copy_match : goal.decreases-copy_match
decreases-copy_match l = 3 * max (size-Expr l.of.now) (most size-Arm l.arms.now) + 2

abbrev pub decreases-copy_part : goal.decreases-copy_part
decreases-copy_part l = 3 * (size-Expr l.part.now) + 1

abbrev pub decreases-copy_binary : goal.decreases-copy_binary
decreases-copy_binary l = 3 * (max (size-Expr l.left.now) (size-Expr l.right.now)) + 2

abbrev pub decreases-copy_and : goal.decreases-copy_and
decreases-copy_and l = 3 * (size-Expr l.right.now) + 2

abbrev pub decreases-copy_or : goal.decreases-copy_or
decreases-copy_or l = 3 * (max (size-Expr l.left.now) (size-Expr l.right.now)) + 2

abbrev pub decreases-copy_for_all : goal.decreases-copy_for_all
decreases-copy_for_all l = 3 * (max (size-Expr l.list.now) (size-Expr l.test.now)) + 2

abbrev pub decreases-copy_exists : goal.decreases-copy_exists
decreases-copy_exists l = 3 * (max (size-Expr l.list.now) (size-Expr l.test.now)) + 2

abbrev pub decreases-copy_filter : goal.decreases-copy_filter
decreases-copy_filter l = 3 * (max (size-Expr l.list.now) (size-Expr l.test.now)) + 2

abbrev pub decreases-copy_map : goal.decreases-copy_map
decreases-copy_map l = 3 * (max (size-Expr l.list.now) (size-Expr l.body.now)) + 2

abbrev pub decreases-copy_contains : goal.decreases-copy_contains
decreases-copy_contains l = 3 * (max (size-Expr l.list.now) (size-Expr l.of.now)) + 2

abbrev pub decreases-copy_if : goal.decreases-copy_if
decreases-copy_if l = 3 * (max (size-Expr l.test.now) (max (size-Expr l.yes.now) (size-Expr l.no.now))) + 2

abbrev pub decreases-copy_combine : goal.decreases-copy_combine
decreases-copy_combine l = 3 * (max (size-Expr l.list.now) (max (size-Expr l.start.now) (size-Expr l.body.now))) + 2

abbrev pub decreases-copy_case : goal.decreases-copy_case
decreases-copy_case l = 3 * (size-Expr l.of.now) + 2

abbrev pub invariant-copy_all-loop-expr : goal.invariant-copy_all-loop-expr
invariant-copy_all-loop-expr l = l.copies ≡ take l.expr-index l.exprs

abbrev pub invariant-copy_fields-loop-field : goal.invariant-copy_fields-loop-field
invariant-copy_fields-loop-field l = l.copies ≡ take l.field-index l.fields

abbrev pub invariant-copy_arms-loop-arm : goal.invariant-copy_arms-loop-arm
invariant-copy_arms-loop-arm l = l.copies ≡ take l.arm-index l.arms
