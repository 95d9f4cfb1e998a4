use Rattle.cat_verify_shapes.proofs.OperandLemmas.{gives_form}
use Rattle.cat_verify_shapes.proofs.operating.gives.Goals as goal

pub returns : goal.returns
returns c =
    let forms = c.args.forms.now in
    let p = c.args.place in
    let s = c.args.shape in
    gives_form forms c.push.result p s c.args.form c.in_ok-form.form c.in_ok-form.ensures c.push.ensures
