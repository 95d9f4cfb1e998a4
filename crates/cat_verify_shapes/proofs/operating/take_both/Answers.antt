use Rattle.std.proofs.Common.{subst}
use Rattle.cat_verify_shapes.specs.inside.Operators.{TakesForm}
use Rattle.cat_verify_shapes.proofs.OperandLemmas.{takes_left, takes_no_right}
use Rattle.cat_verify_shapes.proofs.operating.take_both.Goals as goal

pub returns-then-not-branch : goal.returns-then-not-branch
returns-then-not-branch c =
    let forms = c.args.forms.now in
    takes_no_right forms c.args.shape.now c.take.new.shape c.args.left c.args.right c.in_ok-take.field-0
    c.in_ok-take.ensures c.if-not-branch.true

pub returns : goal.returns
returns c =
    let forms = c.args.forms.now in
    takes_left forms c.take-2.result c.args.shape.now c.take.new.shape c.take-2.new.shape c.args.left c.args.right
    (subst (TakesForm forms c.args.shape.now c.take.new.shape c.args.right) c.if-not-branch.false
    c.in_ok-take.ensures)
    c.take-2.ensures
