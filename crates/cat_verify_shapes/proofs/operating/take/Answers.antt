use Rattle.cat_verify_shapes.proofs.operating.take.Goals as goal

pub returns : goal.returns
returns c =
    (c.in_ok-form.form, c.in_ok-form.ensures, c.pop_as.ensures)
