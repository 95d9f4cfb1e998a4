use Rattle.std.proofs.Common.{List, ap, ◌-◌, true, false}
use Rattle.cat_verify_shapes.specs.declared.shape.LoopShape.{LoopShape}
use Rattle.cat_verify_shapes.proofs.LoopCalls.{first_place, not_behind, right_behind}
use Rattle.cat_verify_shapes.proofs.LoopSteps.{next_nothing, next_apart, next_so}
use Rattle.cat_verify_shapes.proofs.looping.next.Goals as goal

pub returns-in_default : goal.returns-in_default
returns-in_default c =
    next_nothing c.args.tables.now c.args.forms.now c.args.place c.args.shape c.in_ok-outside.outside c.args.other
    c.in_ok-outside.ensures c.in_default.ensures.0

pub returns-then-place-eq0 : goal.returns-then-place-eq0
returns-then-place-eq0 c =
    let copy = c.in_ok-outside.outside in
    next_apart c.args.tables.now c.args.forms.now c.args.place c.args.shape copy
    (record copy { loops = c.pop.new.self }) c.args.other c.in-Some.innermost c.in_ok-outside.ensures
    (ap (λ (ls : List LoopShape). record copy { loops = ls }) c.in-Some.ensures)
    (first_place c.in-Some.innermost.begun c.args.place c.if-place-eq0.true)

pub returns-then-innermost-place : goal.returns-then-innermost-place
returns-then-innermost-place c =
    let copy = c.in_ok-outside.outside in
    next_apart c.args.tables.now c.args.forms.now c.args.place c.args.shape copy
    (record copy { loops = c.pop.new.self }) c.args.other c.in-Some.innermost c.in_ok-outside.ensures
    (ap (λ (ls : List LoopShape). record copy { loops = ls }) c.in-Some.ensures)
    (not_behind c.in-Some.innermost.begun c.args.place c.if-place-eq0.false c.if-innermost-place.true)

pub returns : goal.returns
returns c =
    let copy = c.in_ok-outside.outside in
    next_so c.args.tables.now c.args.forms.now c.args.place c.args.shape copy
    (record copy { loops = c.pop.new.self }) c.in_ok-outside-2.outside c.args.other c.in-Some.innermost
    c.push.new.self c.in_ok-outside.ensures
    (ap (λ (ls : List LoopShape). record copy { loops = ls }) c.in-Some.ensures)
    (right_behind c.in-Some.innermost.begun c.args.place c.if-place-eq0.false c.if-innermost-place.false)
    c.in_ok-outside-2.ensures c.in_ok-push.ensures.ok
