use Rattle.std.proofs.Common.{rules, arith, slice_index_or, false}
use Rattle.cat_verify_shapes.specs.declared.shape.FrameShape.{FrameShape}
use Rattle.cat_verify_shapes.proofs.FrontLemmas.{slot_is}
use Rattle.cat_verify_shapes.proofs.AlikeTests.{frames_long, frames_unlike, frames_more}
use Rattle.cat_verify_shapes.proofs.alike.same_frames.Goals as goal

pub returns-then-left-right : goal.returns-then-left-right
returns-then-left-right c =
    frames_long c.args.left.now c.args.right.now (λ e. absurd (omega (arith, e, c.if-left-right.true)))

pub returns-then-frame-right : goal.returns-then-frame-right
returns-then-frame-right c =
    let fs = c.args.left.now in
    let gs = c.args.right.now in
    let n = c.loop-at.at in
    let none : FrameShape = record { begun = 0; holds = 0; checked = false } in
    frames_unlike fs gs n (slice_index_or fs n none) (slice_index_or gs n none) (slot_is fs n none (search rules))
    (slot_is gs n none (search rules)) (λ begun holds. absurd (omega (arith, begun, c.if-frame-right.true)))

pub returns-then-frame-right-2 : goal.returns-then-frame-right-2
returns-then-frame-right-2 c =
    let fs = c.args.left.now in
    let gs = c.args.right.now in
    let n = c.loop-at.at in
    let none : FrameShape = record { begun = 0; holds = 0; checked = false } in
    frames_unlike fs gs n (slice_index_or fs n none) (slice_index_or gs n none) (slot_is fs n none (search rules))
    (slot_is gs n none (search rules)) (λ begun holds. absurd (omega (arith, holds, c.if-frame-right-2.true)))

pub loop-at-preserved : goal.loop-at-preserved
loop-at-preserved c =
    let fs = c.args.left.now in
    let gs = c.args.right.now in
    let n = c.loop-at.at in
    let none : FrameShape = record { begun = 0; holds = 0; checked = false } in
    frames_more fs gs n (slice_index_or fs n none) (slice_index_or gs n none) (slot_is fs n none (search rules))
    (slot_is gs n none (search rules)) c.loop-at.invariant (omega (arith, c.if-frame-right.false))
    (omega (arith, c.if-frame-right-2.false))
