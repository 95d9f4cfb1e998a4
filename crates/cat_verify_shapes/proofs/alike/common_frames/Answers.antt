use Rattle.std.proofs.Common.{rules, ◌≡◌, ◌∙◌, ◌&&◌, ◌++◌, ◌∷◌, [], sym, ap, Bool, false, List, slice_index_or}
use Rattle.cat_verify_shapes.specs.declared.shape.FrameShape.{FrameShape}
use Rattle.cat_verify_shapes.specs.inside.Alike.{common_frame}
use Rattle.cat_verify_shapes.proofs.FrontLemmas.{zipped_more, slot_is}
use Rattle.cat_verify_shapes.proofs.alike.common_frames.Goals.{then-frame, else-frame}
use Rattle.cat_verify_shapes.proofs.alike.common_frames.Goals as goal

pub loop-at-preserved : goal.loop-at-preserved
loop-at-preserved c =
    let fs = c.args.left.now in
    let gs = c.args.right.now in
    let n = c.loop-at.at in
    let none : FrameShape = record { begun = 0; holds = 0; checked = false } in
    let f : FrameShape = slice_index_or fs n none in
    let g : FrameShape = slice_index_or gs n none in
    let item : c.if-frame.push ≡ (f.checked && g.checked) =
    elim c.if-frame.branch [
      | then-frame w ↦ w.push-is ∙ ap (λ (b : Bool). b && g.checked) (sym w.if-frame.true)
      | else-frame w ↦ w.push-is ∙ w.if-frame.false ∙ ap (λ (b : Bool). b && g.checked) (sym w.if-frame.false)
    ] in
    c.in_ok-push.ensures.ok
    ∙ ap (λ (b : Bool). c.loop-at.frames ++ (record f { checked = b }) ∷ []) item
    ∙ ap (λ (hs : List FrameShape). hs ++ common_frame f g ∷ []) c.loop-at.invariant
    ∙ sym (zipped_more common_frame fs gs n f g (slot_is fs n none (search rules)) (slot_is gs n none (search rules)))
