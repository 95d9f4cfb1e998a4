use Rattle.cat_verify_shapes.proofs.StepLemmas.{popped_as}
use Rattle.cat_verify_shapes.proofs.ValueSteps.{bind_nothing, bind_so}
use Rattle.cat_verify_shapes.proofs.values.bind.Goals as goal

pub returns-in_default : goal.returns-in_default
returns-in_default c =
    let tables = c.args.tables.now in
    let forms = c.args.forms.now in
    let p = c.args.place in
    let s = c.args.shape in
    bind_nothing tables forms p s c.in_default.ensures.0

pub returns : goal.returns
returns c =
    let tables = c.args.tables.now in
    let forms = c.args.forms.now in
    let p = c.args.place in
    let s = c.args.shape in
    bind_so tables forms p s (record s { operands = c.pop.new.self }) c.in-Some.form c.push.new.self
    (popped_as s c.in-Some.form c.pop.new.self c.in-Some.ensures) c.in_ok-push.ensures.ok
