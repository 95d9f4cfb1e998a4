use Rattle.std.proofs.Common.{◌+◌, ◌*◌, max}
use Rattle.cat_scope.specs.declared.expr.Expr.{size-Expr}
use Rattle.cat_audit_table.proofs.guard.+guard.Given as goal

abbrev pub decreases-guard : goal.decreases-guard
decreases-guard l = 3 * size-Expr l.expr.now

abbrev pub decreases-of_unary : goal.decreases-of_unary
decreases-of_unary l = 3 * size-Expr l.of.now + 1

abbrev pub decreases-of_binary : goal.decreases-of_binary
decreases-of_binary l = 3 * max (size-Expr l.left.now) (size-Expr l.right.now) + 2

abbrev pub decreases-both : goal.decreases-both
decreases-both l = 3 * max (size-Expr l.left.now) (size-Expr l.right.now) + 1

abbrev pub decreases-either : goal.decreases-either
decreases-either l = 3 * max (size-Expr l.left.now) (size-Expr l.right.now) + 1

abbrev pub decreases-differ : goal.decreases-differ
decreases-differ l = 3 * max (size-Expr l.left.now) (size-Expr l.right.now) + 1

abbrev pub decreases-choice : goal.decreases-choice
decreases-choice l = 3 * max (size-Expr l.test.now) (max (size-Expr l.yes.now) (size-Expr l.no.now)) + 1
