use Rattle.cat_verify_shapes.proofs.ShapeTests.{slots_long, frames_as_long, alike_below, fewer_slots, fewer_frames}
use Rattle.cat_verify_shapes.proofs.ShapeTests.{no_fewer}
use Rattle.cat_verify_shapes.proofs.alike.has_no_fewer.Goals as goal

pub are_fewer-requires : goal.are_fewer-requires
are_fewer-requires c =
    slots_long c.args.left.now c.args.shape.now c.requires c.as_slice.result.now c.as_slice-2.result.now
    c.as_slice.ensures c.as_slice-2.ensures

pub are_checked-requires : goal.are_checked-requires
are_checked-requires c =
    frames_as_long c.args.left.now c.args.shape.now c.requires c.from_below.result.now c.from_below-2.result.now
    c.from_below.ensures c.from_below-2.ensures

pub are_passed-requires : goal.are_passed-requires
are_passed-requires c =
    alike_below c.args.left.now c.args.shape.now c.requires c.from_below-3.result.now c.from_below-4.result.now
    c.from_below-3.ensures c.from_below-4.ensures

pub returns-then-not-are_fewer : goal.returns-then-not-are_fewer
returns-then-not-are_fewer c =
    fewer_slots c.args.left.now c.args.shape.now c.are_fewer.result c.as_slice.result.now c.as_slice-2.result.now
    c.as_slice.ensures c.as_slice-2.ensures c.if-not-are_fewer.true c.are_fewer.ensures

pub returns-then-not-are_checked : goal.returns-then-not-are_checked
returns-then-not-are_checked c =
    fewer_frames c.args.left.now c.args.shape.now c.are_checked.result c.from_below.result.now
    c.from_below-2.result.now c.from_below.ensures c.from_below-2.ensures c.if-not-are_checked.true
    c.are_checked.ensures

pub returns : goal.returns
returns c =
    no_fewer c.args.left.now c.args.shape.now c.are_passed.result c.as_slice.result.now c.as_slice-2.result.now
    c.from_below.result.now c.from_below-2.result.now c.from_below-3.result.now c.from_below-4.result.now
    c.as_slice.ensures c.as_slice-2.ensures (c.are_fewer.ensures.0 c.if-not-are_fewer.false) c.from_below.ensures
    c.from_below-2.ensures (c.are_checked.ensures.0 c.if-not-are_checked.false) c.from_below-3.ensures
    c.from_below-4.ensures c.are_passed.ensures
