use Rattle.std.proofs.Common.{length}
use Rattle.cat_verify_shapes.proofs.CountLemmas.{count_so, count_not}
use Rattle.cat_verify_shapes.proofs.DefaultSteps.{held_nothing, held_so}
use Rattle.cat_verify_shapes.proofs.defaults.held.Goals as goal

pub returns-then-len-eq0 : goal.returns-then-len-eq0
returns-then-len-eq0 c =
    let tables = c.args.tables.now in
    let forms = c.args.forms.now in
    let s = c.args.shape in
    held_nothing tables forms c.args.place s c.args.other
    (count_so 0 c.len.result (length s.defaults) c.len.ensures c.if-len-eq0.true)

pub returns : goal.returns
returns c =
    let tables = c.args.tables.now in
    let forms = c.args.forms.now in
    let s = c.args.shape in
    held_so tables forms c.args.place s c.args.other c.in_ok-both.field-0
    (count_not 0 c.len.result (length s.defaults) c.len.ensures c.if-len-eq0.false) c.in_ok-both.ensures
