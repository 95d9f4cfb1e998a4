use Rattle.std.proofs.Common.{◌∙◌, length, ap, sym}
use Rattle.cat_verify_shapes.specs.inside.Alike.{common_frame, common_pending}
use Rattle.cat_verify_shapes.specs.inside.Zipped.{both}
use Rattle.std.proofs.Common.{List, Bool}
use Rattle.cat_verify_shapes.proofs.AlikeTests.{AlikeFrame, alike_long}
use Rattle.cat_verify_shapes.proofs.FrontLemmas.{meet_long}
use Rattle.cat_verify_shapes.proofs.ShapeTests.{frames_as_long, alike_above, common_below, common_shape}
use Rattle.cat_verify_shapes.proofs.alike.common.Goals as goal

pub common_flags-requires : goal.common_flags-requires
common_flags-requires c = ap length c.as_slice.ensures ∙ c.requires.filled ∙ ap length (sym c.as_slice-2.ensures)

pub common_frames-requires : goal.common_frames-requires
common_frames-requires c =
    sym (frames_as_long c.args.left c.args.right.now c.requires c.from_below-2.result.now c.from_below.result.now
    c.from_below-2.ensures c.from_below.ensures)

pub common_pending-requires : goal.common_pending-requires
common_pending-requires c =
    alike_above c.args.left c.args.right.now c.requires c.from_below-3.result.now c.from_below-4.result.now
    c.from_below-3.ensures c.from_below-4.ensures

pub returns : goal.returns
returns c =
    let left = c.args.left in
    let right = c.args.right.now in
    common_shape left right c.in_ok-filled.filled c.in_ok-defaults.defaults c.in_ok-pending.pending
    (c.in_ok-filled.ensures ∙ ap (λ (fs : List Bool). both fs c.as_slice-2.result.now) c.as_slice.ensures
    ∙ ap (both left.filled) c.as_slice-2.ensures)
    (c.in_ok-defaults.ensures ∙ common_below common_frame left.defaults right.defaults c.from_below.result.now
    c.from_below-2.result.now c.from_below.ensures c.from_below-2.ensures
    (meet_long AlikeFrame left.defaults right.defaults c.requires.defaults))
    (c.in_ok-pending.ensures ∙ common_below common_pending left.pending right.pending c.from_below-3.result.now
    c.from_below-4.result.now c.from_below-3.ensures c.from_below-4.ensures
    (alike_long left.pending right.pending c.requires.pending))
