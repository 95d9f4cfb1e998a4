use Rattle.std.proofs.Common.{None, Some}
use Rattle.cat_verify_shapes.proofs.LoopCalls.{pops_as}
use Rattle.cat_verify_shapes.proofs.LoopSteps.{length_nothing, length_so}
use Rattle.cat_verify_shapes.proofs.looping.length.Goals as goal

pub returns-in_default : goal.returns-in_default
returns-in_default c =
    let tables = c.args.tables.now in
    let forms = c.args.forms.now in
    let s = c.args.shape in
    length_nothing tables forms c.args.place s c.pop_list.new.shape
    (pops_as tables forms s c.pop_list.new.shape c.in_ok-pop_list.field-0 None c.in_ok-pop_list.ensures c.in_default.is)

pub returns : goal.returns
returns c =
    let tables = c.args.tables.now in
    let forms = c.args.forms.now in
    let s = c.args.shape in
    length_so tables forms c.args.place s c.pop_list.new.shape c.in-Some.field-0 c.in_ok-whole.whole
    c.in_ok-push.field-0
    (pops_as tables forms s c.pop_list.new.shape c.in_ok-pop_list.field-0 (Some c.in-Some.field-0)
    c.in_ok-pop_list.ensures c.in-Some.is)
    c.in_ok-whole.ensures c.in_ok-push.ensures
