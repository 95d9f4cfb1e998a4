use Rattle.std.proofs.Common.{arith}
use Rattle.cat_verify_shapes.proofs.ShapeTests.{same_below, other_owner, other_slots, other_operands, other_locals}
use Rattle.cat_verify_shapes.proofs.ShapeTests.{other_loops, other_frames, all_alike}
use Rattle.std.proofs.Common.{sym, ◌∙◌}
use Rattle.cat_verify_shapes.proofs.alike.are_alike.Goals as goal

pub returns-then-not-same_owner : goal.returns-then-not-same_owner
returns-then-not-same_owner c =
    other_owner c.args.left.now c.args.right.now c.same_owner.result c.if-not-same_owner.true c.same_owner.ensures

pub returns-then-len : goal.returns-then-len
returns-then-len c =
    other_slots c.args.left.now c.args.right.now
    (λ e. absurd (omega (arith, e, c.if-len.true, c.len.ensures, c.len-2.ensures)))

pub returns-then-not-same_numbers : goal.returns-then-not-same_numbers
returns-then-not-same_numbers c =
    other_operands c.args.left.now c.args.right.now c.same_numbers.result c.from_below.result.now
    c.from_below-2.result.now c.from_below.ensures c.from_below-2.ensures c.if-not-same_numbers.true
    c.same_numbers.ensures

pub returns-then-not-same_numbers-2 : goal.returns-then-not-same_numbers-2
returns-then-not-same_numbers-2 c =
    other_locals c.args.left.now c.args.right.now c.same_numbers-2.result c.as_slice.result.now c.as_slice-2.result.now
    c.as_slice.ensures c.as_slice-2.ensures c.if-not-same_numbers-2.true c.same_numbers-2.ensures

pub returns-then-not-same_loops : goal.returns-then-not-same_loops
returns-then-not-same_loops c =
    other_loops c.args.left.now c.args.right.now c.same_loops.result c.from_below-3.result.now
    c.from_below-4.result.now c.from_below-3.ensures c.from_below-4.ensures c.if-not-same_loops.true
    c.same_loops.ensures

pub returns-then-not-same_frames : goal.returns-then-not-same_frames
returns-then-not-same_frames c =
    other_frames c.args.left.now c.args.right.now c.same_frames.result c.from_below-5.result.now
    c.from_below-6.result.now c.from_below-5.ensures c.from_below-6.ensures c.if-not-same_frames.true
    c.same_frames.ensures

pub returns : goal.returns
returns c =
    let left = c.args.left.now in
    let right = c.args.right.now in
    all_alike left right c.same_pending.result c.from_below-5.result.now c.from_below-6.result.now
    c.from_below-7.result.now c.from_below-8.result.now (c.same_owner.ensures.0 c.if-not-same_owner.false)
    (omega (arith, c.if-len.false, c.len.ensures, c.len-2.ensures))
    (same_below left.operands right.operands c.from_below.result.now c.from_below-2.result.now c.from_below.ensures
    c.from_below-2.ensures (c.same_numbers.ensures.0 c.if-not-same_numbers.false))
    (sym c.as_slice.ensures ∙ c.same_numbers-2.ensures.0 c.if-not-same_numbers-2.false ∙ c.as_slice-2.ensures)
    (same_below left.loops right.loops c.from_below-3.result.now c.from_below-4.result.now c.from_below-3.ensures
    c.from_below-4.ensures (c.same_loops.ensures.0 c.if-not-same_loops.false))
    c.from_below-5.ensures c.from_below-6.ensures (c.same_frames.ensures.0 c.if-not-same_frames.false)
    c.from_below-7.ensures c.from_below-8.ensures c.same_pending.ensures
