use Rattle.std.proofs.Common.{subst, Bool}
use Rattle.cat_verify_shapes.specs.inside.Operators.{TakesBoth}
use Rattle.cat_verify_shapes.proofs.OperatorSteps.{between_so, between_not}
use Rattle.cat_verify_shapes.proofs.operating.between.Goals as goal

pub returns-then-not-branch : goal.returns-then-not-branch
returns-then-not-branch c =
    let tables = c.args.tables.now in
    let forms = c.args.forms.now in
    let p = c.args.place in
    let s = c.args.shape in
    between_not tables forms p s c.take_both.new.shape c.args.left c.args.right c.args.given
    (subst (λ (so : Bool). TakesBoth forms s c.take_both.new.shape c.args.left c.args.right so)
    c.if-not-branch.true c.in_ok-take_both.ensures)

pub returns : goal.returns
returns c =
    let tables = c.args.tables.now in
    let forms = c.args.forms.now in
    let p = c.args.place in
    let s = c.args.shape in
    between_so tables forms p s c.take_both.new.shape c.args.left c.args.right c.args.given c.in_ok-gives.field-0
    (subst (λ (so : Bool). TakesBoth forms s c.take_both.new.shape c.args.left c.args.right so)
    c.if-not-branch.false c.in_ok-take_both.ensures)
    c.in_ok-gives.ensures
