use Rattle.std.proofs.Common.{None, Some, sym}
use Rattle.cat_verify_shapes.proofs.LoopCalls.{ends_as}
use Rattle.cat_verify_shapes.proofs.LoopSteps.{ends_plain, ends_list}
use Rattle.cat_verify_shapes.proofs.looping.ended.Goals as goal

pub returns : goal.returns
returns c =
    let tables = c.args.tables.now in
    let forms = c.args.forms.now in
    let s = c.args.shape in
    ends_as tables forms s (record s { operands = c.push.new.self }) (Some c.in-Some.collected) c.args.collected
    (ends_list tables forms s c.in-Some.collected c.in_ok-list.list c.push.new.self c.in_ok-list.ensures
    c.in_ok-push.ensures.ok)
    (sym c.in-Some.is)

pub returns-in_default : goal.returns-in_default
returns-in_default c =
    let tables = c.args.tables.now in
    let forms = c.args.forms.now in
    let s = c.args.shape in
    ends_as tables forms s s None c.args.collected (ends_plain tables forms s) (sym c.in_default.is)
