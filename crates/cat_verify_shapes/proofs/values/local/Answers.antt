use Rattle.std.proofs.Common.{rules}
use Rattle.cat_verify_shapes.proofs.ValueSteps.{local_gives}
use Rattle.cat_verify_shapes.proofs.values.local.Goals as goal

pub returns : goal.returns
returns c =
    let tables = c.args.tables.now in
    let forms = c.args.forms.now in
    let p = c.args.place in
    let s = c.args.shape in
    local_gives tables forms p c.give.result s c.args.local c.copied-form.result (search rules) c.give.ensures
