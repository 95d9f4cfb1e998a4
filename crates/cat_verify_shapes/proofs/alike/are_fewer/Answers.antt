use Rattle.std.proofs.Common.{rules, ◌≡◌, ◌∙◌, sym, ap, true≢false, true, false, Some, slice_index_or}
use Rattle.cat_verify_shapes.proofs.FrontLemmas.{fewer_more, fewer_at, tells_not, slot_is}
use Rattle.cat_verify_shapes.proofs.alike.are_fewer.Goals.{else-flag-via-then-flag+else-not-others-at}
use Rattle.cat_verify_shapes.proofs.alike.are_fewer.Goals.{else-flag-via-else-flag}
use Rattle.cat_verify_shapes.proofs.alike.are_fewer.Goals as goal

pub returns-then-not-others-at : goal.returns-then-not-others-at
returns-then-not-others-at c =
    let xs = c.args.flags.now in
    let ys = c.args.others.now in
    let n = c.loop-at.at in
    tells_not (λ h. absurd (true≢false (sym (fewer_at xs ys n (slice_index_or ys n false)
    (slot_is xs n false (search rules) ∙ ap Some c.if-flag.true) (slot_is ys n false (search rules)) h)
    ∙ c.if-not-others-at.true)))

pub loop-at-preserved : goal.loop-at-preserved
loop-at-preserved c =
    let xs = c.args.flags.now in
    let ys = c.args.others.now in
    let n = c.loop-at.at in
    let so : slice_index_or xs n false ≡ true → slice_index_or ys n false ≡ true =
    elim c.else-flag.branch [
      | else-flag-via-then-flag+else-not-others-at w ↦ λ e. w.if-not-others-at.false
      | else-flag-via-else-flag w ↦ λ e. absurd (true≢false (sym e ∙ w.if-flag.false))
    ] in
    fewer_more xs ys n (slice_index_or xs n false) (slice_index_or ys n false) (slot_is xs n false (search rules))
    (slot_is ys n false (search rules)) c.loop-at.invariant so
