use Rattle.cat_code.specs.Told.{constant_form}
use Rattle.cat_verify_shapes.proofs.StepLemmas.{gives_comes}
use Rattle.cat_verify_shapes.proofs.values.constant.Goals as goal

pub returns : goal.returns
returns c =
    let tables = c.args.tables.now in
    let forms = c.args.forms.now in
    let p = c.args.place in
    let s = c.args.shape in
    gives_comes tables forms c.give.result p s c.in_ok-form.form (constant_form tables c.args.constant)
    c.give.ensures c.in_ok-form.ensures
