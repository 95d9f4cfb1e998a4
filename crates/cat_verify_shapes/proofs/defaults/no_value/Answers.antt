use Rattle.std.proofs.Common.{length}
use Rattle.cat_verify_shapes.proofs.CountLemmas.{past_all, within_all}
use Rattle.cat_verify_shapes.proofs.DefaultSteps.{no_value_nowhere, no_value_so}
use Rattle.cat_verify_shapes.proofs.defaults.no_value.Goals as goal

pub returns-then-target-len : goal.returns-then-target-len
returns-then-target-len c =
    let tables = c.args.tables.now in
    let forms = c.args.forms.now in
    let p = c.args.place in
    let s = c.args.shape in
    no_value_nowhere tables forms p s c.args.target
    (past_all c.args.target c.len.result (length tables.targets) c.len.ensures
    c.if-target-len.true)

pub returns : goal.returns
returns c =
    let tables = c.args.tables.now in
    let forms = c.args.forms.now in
    let p = c.args.place in
    let s = c.args.shape in
    no_value_so tables forms p s c.args.target
    (within_all c.args.target c.len.result (length tables.targets) c.len.ensures
    c.if-target-len.false)
