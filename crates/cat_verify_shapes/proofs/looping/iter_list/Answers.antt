use Rattle.std.proofs.Common.{None, Some}
use Rattle.cat_verify_shapes.proofs.LoopCalls.{pops_as, collected_as}
use Rattle.cat_verify_shapes.proofs.LoopSteps.{iter_list_nothing, iter_list_other, iter_list_so}
use Rattle.cat_verify_shapes.proofs.looping.iter_list.Goals as goal

pub returns-in_default : goal.returns-in_default
returns-in_default c =
    let tables = c.args.tables.now in
    let forms = c.args.forms.now in
    let s = c.args.shape in
    iter_list_nothing tables forms c.args.place s c.pop_list.new.shape c.args.constant
    (pops_as tables forms s c.pop_list.new.shape c.in_ok-element.field-0 None c.in_ok-element.ensures c.in_default.is)

pub returns-in_default-2 : goal.returns-in_default-2
returns-in_default-2 c =
    let tables = c.args.tables.now in
    let forms = c.args.forms.now in
    let s = c.args.shape in
    iter_list_other tables forms c.args.place s c.pop_list.new.shape c.args.constant c.in-Some.element
    (pops_as tables forms s c.pop_list.new.shape c.in_ok-element.field-0 (Some c.in-Some.element)
    c.in_ok-element.ensures c.in-Some.is)
    (collected_as tables forms c.args.constant c.in_ok-collected.field-0 None c.in_ok-collected.ensures
    c.in_default-2.is)

pub returns : goal.returns
returns c =
    let tables = c.args.tables.now in
    let forms = c.args.forms.now in
    let s = c.args.shape in
    iter_list_so tables forms c.args.place s c.pop_list.new.shape c.args.constant c.in-Some.element
    c.in-Some-2.collected c.in_ok-begin.field-0
    (pops_as tables forms s c.pop_list.new.shape c.in_ok-element.field-0 (Some c.in-Some.element)
    c.in_ok-element.ensures c.in-Some.is)
    (collected_as tables forms c.args.constant c.in_ok-collected.field-0 (Some c.in-Some-2.collected)
    c.in_ok-collected.ensures c.in-Some-2.is)
    c.in_ok-begin.ensures
