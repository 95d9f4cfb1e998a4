use Rattle.std.proofs.Common.{List, ap}
use Rattle.cat_verify_shapes.specs.declared.shape.LoopShape.{LoopShape}
use Rattle.cat_verify_shapes.proofs.LoopSteps.{leave_nothing, leave_so}
use Rattle.cat_verify_shapes.proofs.looping.leave.Goals as goal

pub returns-in_default : goal.returns-in_default
returns-in_default c =
    leave_nothing c.args.tables.now c.args.forms.now c.args.place c.args.shape c.in_default.ensures.0

pub returns : goal.returns
returns c =
    let s = c.args.shape in
    leave_so c.args.tables.now c.args.forms.now c.args.place s (record s { loops = c.pop.new.self }) c.in-Some.field-0
    (ap (λ (ls : List LoopShape). record s { loops = ls }) c.in-Some.ensures)
