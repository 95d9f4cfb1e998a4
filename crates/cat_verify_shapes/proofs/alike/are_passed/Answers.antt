use Rattle.std.proofs.Common.{arith, ap, length, refl, ◌∙◌, ◌<◌, sym, List, Bool, subst, slice_index_or, ◌≤◌}
use Rattle.std.proofs.lemmas.Option.{slice_get_read}
use Rattle.cat_code.specs.Shapes.{AreFewer}
use Rattle.cat_verify_shapes.specs.declared.shape.PendingShape.{PendingShape}
use Rattle.cat_verify_shapes.proofs.FrontLemmas.{meet_all, tells_so, slot_is}
use Rattle.cat_verify_shapes.proofs.AlikeTests.{IsPassed, alike_long, passed_long, unpassed, passed_more}
use Rattle.cat_verify_shapes.proofs.ShapeTests.{refutes}
use Rattle.cat_verify_shapes.proofs.alike.are_passed.Goals as goal

pub bounds-others-at : goal.bounds-others-at
bounds-others-at c = omega (arith, c.loop-at-test.true, alike_long c.args.pending.now c.args.others.now c.requires)

pub are_fewer-requires : goal.are_fewer-requires
are_fewer-requires c =
    let ps = c.args.pending.now in
    let qs = c.args.others.now in
    let n = c.loop-at.at in
    let p : PendingShape = c.index-pending-at.result in
    let q : PendingShape = slice_index_or qs n c.index-others-at.result in
    let within : n < length qs = omega (arith, c.loop-at-test.true, alike_long ps qs c.requires) in
    ap length c.as_slice.ensures
    ∙ passed_long ps qs n p q (slice_get_read ps (length ps) n p refl c.loop-at-test.true c.index-pending-at.is)
    (slot_is qs n c.index-others-at.result within) c.requires
    ∙ ap length (sym c.as_slice-in-loop-at.ensures)

pub returns-then-not-are_fewer : goal.returns-then-not-are_fewer
returns-then-not-are_fewer c =
    let ps = c.args.pending.now in
    let qs = c.args.others.now in
    let n = c.loop-at.at in
    let p : PendingShape = c.index-pending-at.result in
    let q : PendingShape = slice_index_or qs n c.index-others-at.result in
    let within : n < length qs = omega (arith, c.loop-at-test.true, alike_long ps qs c.requires) in
    unpassed ps qs n p q (slice_get_read ps (length ps) n p refl c.loop-at-test.true c.index-pending-at.is)
    (slot_is qs n c.index-others-at.result within)
    (λ fewer. refutes c.are_fewer.result c.if-not-are_fewer.true c.are_fewer.ensures
    (subst (λ (l : List Bool). AreFewer l c.as_slice-in-loop-at.result.now) (sym c.as_slice.ensures)
    (subst (AreFewer p.passed) (sym c.as_slice-in-loop-at.ensures) fewer)))

pub loop-at-preserved : goal.loop-at-preserved
loop-at-preserved c =
    let ps = c.args.pending.now in
    let qs = c.args.others.now in
    let n = c.loop-at.at in
    let p : PendingShape = c.index-pending-at.result in
    let q : PendingShape = slice_index_or qs n c.index-others-at.result in
    let within : n < length qs = omega (arith, c.loop-at-test.true, alike_long ps qs c.requires) in
    passed_more ps qs n p q (slice_get_read ps (length ps) n p refl c.loop-at-test.true c.index-pending-at.is)
    (slot_is qs n c.index-others-at.result within) c.loop-at.invariant
    (subst (λ (l : List Bool). AreFewer l q.passed) c.as_slice.ensures
    (subst (AreFewer c.as_slice.result.now) c.as_slice-in-loop-at.ensures
    (c.are_fewer.ensures.0 c.if-not-are_fewer.false)))

pub returns : goal.returns
returns c =
    let ps = c.args.pending.now in
    let qs = c.args.others.now in
    let past : length ps ≤ c.loop-at.at = omega (arith, c.loop-at-test.false) in
    tells_so (meet_all IsPassed ps qs c.loop-at.at past (alike_long ps qs c.requires) c.loop-at.invariant)
