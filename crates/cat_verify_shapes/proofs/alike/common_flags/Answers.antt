use Rattle.std.proofs.Common.{rules, ◌≡◌, ◌∙◌, ◌&&◌, ◌++◌, ◌∷◌, [], sym, ap, Bool, false, List, slice_index_or}
use Rattle.cat_verify_shapes.proofs.FrontLemmas.{zipped_more, slot_is}
use Rattle.cat_verify_shapes.proofs.alike.common_flags.Goals.{then-flag, else-flag}
use Rattle.cat_verify_shapes.proofs.alike.common_flags.Goals as goal

pub loop-at-preserved : goal.loop-at-preserved
loop-at-preserved c =
    let xs = c.args.left.now in
    let ys = c.args.right.now in
    let n = c.loop-at.at in
    let x = slice_index_or xs n false in
    let y = slice_index_or ys n false in
    let item : c.if-flag.push ≡ (x && y) =
    elim c.if-flag.branch [
      | then-flag w ↦ w.push-is ∙ ap (λ (b : Bool). b && y) (sym w.if-flag.true)
      | else-flag w ↦ w.push-is ∙ w.if-flag.false ∙ ap (λ (b : Bool). b && y) (sym w.if-flag.false)
    ] in
    c.in_ok-push.ensures.ok
    ∙ ap (λ (b : Bool). c.loop-at.flags ++ b ∷ []) item
    ∙ ap (λ (fs : List Bool). fs ++ (x && y) ∷ []) c.loop-at.invariant
    ∙ sym (zipped_more (λ a b. a && b) xs ys n x y (slot_is xs n false (search rules))
    (slot_is ys n false (search rules)))
