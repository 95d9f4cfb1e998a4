use Rattle.std.proofs.Common.{sym}
use Rattle.cat_verify_shapes.proofs.StepLemmas.{popped_as}
use Rattle.cat_verify_shapes.proofs.CountLemmas.{same_so, same_not}
use Rattle.cat_verify_shapes.proofs.LoopSteps.{collect_nothing, collect_other, collect_so}
use Rattle.cat_verify_shapes.proofs.looping.collect.Goals as goal

pub returns-in_default : goal.returns-in_default
returns-in_default c =
    collect_nothing c.args.tables.now c.args.forms.now c.args.place c.args.shape c.in_default.ensures.0

pub returns-then-form-collected : goal.returns-then-form-collected
returns-then-form-collected c =
    let s = c.args.shape in
    collect_other c.args.tables.now c.args.forms.now c.args.place s (record s { operands = c.pop.new.self })
    c.in-Some.form c.in-Some-collected_in.collected (popped_as s c.in-Some.form c.pop.new.self c.in-Some.ensures)
    (sym c.in-Some-collected_in.ensures)
    (same_not c.in-Some.form c.in-Some-collected_in.collected c.if-form-collected.true)

pub returns : goal.returns
returns c =
    let s = c.args.shape in
    collect_so c.args.tables.now c.args.forms.now c.args.place s (record s { operands = c.pop.new.self })
    c.in-Some.form c.in-Some-collected_in.collected (popped_as s c.in-Some.form c.pop.new.self c.in-Some.ensures)
    (sym c.in-Some-collected_in.ensures)
    (same_so c.in-Some.form c.in-Some-collected_in.collected c.if-form-collected.false)
