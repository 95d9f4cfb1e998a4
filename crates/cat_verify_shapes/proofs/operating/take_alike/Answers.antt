use Rattle.cat_verify_shapes.proofs.OperandLemmas.{compares_none, compares_one, compares_unlike, compares_by}
use Rattle.cat_verify_shapes.proofs.operating.take_alike.Goals as goal

pub returns-in_default : goal.returns-in_default
returns-in_default c =
    let forms = c.args.forms.now in
    compares_none forms c.args.shape.now (record c.args.shape.now { operands = c.pop.new.self }) c.args.ordered
    c.in_default.ensures.0

pub returns-in_default-pop : goal.returns-in_default-pop
returns-in_default-pop c =
    let forms = c.args.forms.now in
    compares_one forms c.args.shape.now (record c.args.shape.now { operands = c.pop-2.new.self }) c.args.ordered
    c.in-Some.right c.pop.new.self c.in-Some.ensures c.in_default-pop.ensures.0

pub returns-then-left-right : goal.returns-then-left-right
returns-then-left-right c =
    let forms = c.args.forms.now in
    compares_unlike forms c.args.shape.now (record c.args.shape.now { operands = c.pop-2.new.self }) c.args.ordered
    c.in-Some.right c.in-Some-pop.left c.pop.new.self c.pop-2.new.self c.in-Some.ensures c.in-Some-pop.ensures
    c.if-left-right.true

pub returns : goal.returns
returns c =
    let forms = c.args.forms.now in
    compares_by forms c.args.shape.now c.args.ordered c.in-Some.right c.in-Some-pop.left c.pop.new.self
    c.pop-2.new.self c.in_ok-get.field-0 c.is_compared.result c.in-Some.ensures c.in-Some-pop.ensures
    c.if-left-right.false c.in_ok-get.ensures c.is_compared.ensures
