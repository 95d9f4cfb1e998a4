use Rattle.std.proofs.Common.{subst, Bool}
use Rattle.cat_verify_shapes.specs.inside.Operators.{Compares}
use Rattle.cat_verify_shapes.proofs.OperatorSteps.{compares_so, compares_not}
use Rattle.cat_verify_shapes.proofs.operating.compared.Goals as goal

pub returns-then-not-branch : goal.returns-then-not-branch
returns-then-not-branch c =
    let tables = c.args.tables.now in
    let forms = c.args.forms.now in
    let p = c.args.place in
    let s = c.args.shape in
    compares_not tables forms p s c.take_alike.new.shape c.args.ordered
    (subst (λ (so : Bool). Compares forms s c.take_alike.new.shape c.args.ordered so) c.if-not-branch.true
    c.in_ok-take_alike.ensures)

pub returns : goal.returns
returns c =
    let tables = c.args.tables.now in
    let forms = c.args.forms.now in
    let p = c.args.place in
    let s = c.args.shape in
    compares_so tables forms p s c.take_alike.new.shape c.args.ordered c.in_ok-gives.field-0
    (subst (λ (so : Bool). Compares forms s c.take_alike.new.shape c.args.ordered so) c.if-not-branch.false
    c.in_ok-take_alike.ensures)
    c.in_ok-gives.ensures
