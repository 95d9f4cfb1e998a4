use Rattle.std.proofs.Common.{subst}
use Rattle.cat_verify_shapes.specs.inside.Operators.{TakesForm}
use Rattle.cat_verify_shapes.proofs.OperatorSteps.{before_so, before_not}
use Rattle.cat_verify_shapes.proofs.operating.before.Goals as goal

pub returns-then-not-branch : goal.returns-then-not-branch
returns-then-not-branch c =
    let tables = c.args.tables.now in
    let forms = c.args.forms.now in
    let p = c.args.place in
    let s = c.args.shape in
    before_not tables forms p s c.take.new.shape c.args.takes c.args.given
    (subst (TakesForm forms s c.take.new.shape c.args.takes) c.if-not-branch.true c.in_ok-take.ensures)

pub returns : goal.returns
returns c =
    let tables = c.args.tables.now in
    let forms = c.args.forms.now in
    let p = c.args.place in
    let s = c.args.shape in
    before_so tables forms p s c.take.new.shape c.args.takes c.args.given c.in_ok-gives.field-0
    (subst (TakesForm forms s c.take.new.shape c.args.takes) c.if-not-branch.false c.in_ok-take.ensures)
    c.in_ok-gives.ensures
