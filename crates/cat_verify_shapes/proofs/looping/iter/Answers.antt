use Rattle.std.proofs.Common.{None, Some}
use Rattle.cat_verify_shapes.proofs.LoopCalls.{pops_as}
use Rattle.cat_verify_shapes.proofs.LoopSteps.{iter_nothing, iter_so}
use Rattle.cat_verify_shapes.proofs.looping.iter.Goals as goal

pub returns : goal.returns
returns c =
    let tables = c.args.tables.now in
    let forms = c.args.forms.now in
    let s = c.args.shape in
    iter_so tables forms c.args.place s c.pop_list.new.shape c.in-Some.element c.in_ok-begin.field-0
    (pops_as tables forms s c.pop_list.new.shape c.in_ok-element.field-0 (Some c.in-Some.element)
    c.in_ok-element.ensures c.in-Some.is)
    c.in_ok-begin.ensures

pub returns-in_default : goal.returns-in_default
returns-in_default c =
    let tables = c.args.tables.now in
    let forms = c.args.forms.now in
    let s = c.args.shape in
    iter_nothing tables forms c.args.place s c.pop_list.new.shape
    (pops_as tables forms s c.pop_list.new.shape c.in_ok-element.field-0 None c.in_ok-element.ensures c.in_default.is)
