use Rattle.cat_verify_shapes.proofs.OperatorTable.{operation_at, no_operation}
use Rattle.cat_verify_shapes.proofs.operators.operator_of.Goals as goal

pub returns-then-number-eq0 : goal.returns-then-number-eq0
returns-then-number-eq0 c =
    no_operation c.args.number c.if-number-eq0.true

pub returns : goal.returns
returns c =
    operation_at c.args.number c.if-number-eq0.false c.entry_at.result c.entry_at.ensures
