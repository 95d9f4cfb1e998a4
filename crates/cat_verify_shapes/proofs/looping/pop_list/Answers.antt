use Rattle.std.proofs.Common.{Some, ap, ◌∙◌}
use Rattle.cat_verify_shapes.proofs.StepLemmas.{popped_as}
use Rattle.cat_verify_shapes.proofs.LoopCalls.{no_list}
use Rattle.cat_verify_shapes.proofs.LoopSteps.{pops_nothing, pops_other, pops_list}
use Rattle.cat_verify_shapes.proofs.looping.pop_list.Goals as goal

pub returns-in_default : goal.returns-in_default
returns-in_default c =
    let before = c.args.shape.now in
    pops_nothing c.args.tables.now c.args.forms.now before (record before { operands = c.pop.new.self })
    c.in_default.ensures.0

pub returns-in_default-entry : goal.returns-in_default-entry
returns-in_default-entry c =
    let before = c.args.shape.now in
    pops_other c.args.tables.now c.args.forms.now before (record before { operands = c.pop.new.self })
    c.in-Some.whole c.in_ok-entry.entry (popped_as before c.in-Some.whole c.pop.new.self c.in-Some.ensures)
    c.in_ok-entry.ensures (no_list c.in_ok-entry.entry c.in_default-entry.not-Many)

pub returns : goal.returns
returns c =
    let before = c.args.shape.now in
    pops_list c.args.tables.now c.args.forms.now before (record before { operands = c.pop.new.self }) c.in-Some.whole
    c.in-Many.element (popped_as before c.in-Some.whole c.pop.new.self c.in-Some.ensures)
    (c.in_ok-entry.ensures ∙ ap Some c.in-Many.is)
