use Rattle.std.proofs.Common.{rules, ◌≡◌, ◌∙◌, sym, true≢false, true, false, slice_index_or}
use Rattle.cat_verify_shapes.specs.declared.shape.FrameShape.{FrameShape}
use Rattle.cat_verify_shapes.proofs.FrontLemmas.{slot_is}
use Rattle.cat_verify_shapes.proofs.AlikeTests.{unchecked, checked_more}
use Rattle.cat_verify_shapes.proofs.alike.are_checked.Goals.{else-frame-via-then-frame+else-not-others-at}
use Rattle.cat_verify_shapes.proofs.alike.are_checked.Goals.{else-frame-via-else-frame}
use Rattle.cat_verify_shapes.proofs.alike.are_checked.Goals as goal

pub returns-then-not-others-at : goal.returns-then-not-others-at
returns-then-not-others-at c =
    let fs = c.args.frames.now in
    let gs = c.args.others.now in
    let n = c.loop-at.at in
    let none : FrameShape = record { begun = 0; holds = 0; checked = false } in
    unchecked fs gs n (slice_index_or fs n none) (slice_index_or gs n none) (slot_is fs n none (search rules))
    (slot_is gs n none (search rules)) c.if-frame.true
    (λ so. absurd (true≢false (sym so ∙ c.if-not-others-at.true)))

pub loop-at-preserved : goal.loop-at-preserved
loop-at-preserved c =
    let fs = c.args.frames.now in
    let gs = c.args.others.now in
    let n = c.loop-at.at in
    let none : FrameShape = record { begun = 0; holds = 0; checked = false } in
    let f : FrameShape = slice_index_or fs n none in
    let g : FrameShape = slice_index_or gs n none in
    let so : f.checked ≡ true → g.checked ≡ true =
    elim c.else-frame.branch [
      | else-frame-via-then-frame+else-not-others-at w ↦ λ e. w.if-not-others-at.false
      | else-frame-via-else-frame w ↦ λ e. absurd (true≢false (sym e ∙ w.if-frame.false))
    ] in
    checked_more fs gs n f g (slot_is fs n none (search rules)) (slot_is gs n none (search rules)) c.loop-at.invariant
    so
