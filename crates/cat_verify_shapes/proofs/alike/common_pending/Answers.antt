use Rattle.std.proofs.Common.{refl, ◌<◌, ◌≡◌, ◌∙◌, ◌++◌, ◌∷◌, [], sym, ap, reverse, length, List, Bool, arith}
use Rattle.std.proofs.lemmas.Option.{slice_get_read}
use Rattle.cat_verify_shapes.specs.declared.shape.PendingShape.{PendingShape}
use Rattle.cat_verify_shapes.specs.inside.Alike.{common_pending}
use Rattle.cat_verify_shapes.specs.inside.Zipped.{both}
use Rattle.cat_verify_shapes.proofs.FrontLemmas.{zipped_more, zipped_all}
use Rattle.cat_verify_shapes.proofs.AlikeTests.{alike_long, passed_long}
use Rattle.cat_verify_shapes.proofs.alike.common_pending.Goals as goal

pub bounds-right-at : goal.bounds-right-at
bounds-right-at c = omega (arith, c.loop-at-test.true, alike_long c.args.left.now c.args.right.now c.requires)

pub common_flags-requires : goal.common_flags-requires
common_flags-requires c =
    let ps = c.args.left.now in
    let qs = c.args.right.now in
    let n = c.loop-at.at in
    let p : PendingShape = c.index-left-at.result in
    let q : PendingShape = c.index-right-at.result in
    let within : n < length qs = omega (arith, c.loop-at-test.true, alike_long ps qs c.requires) in
    ap length c.as_slice.ensures
    ∙ passed_long ps qs n p q (slice_get_read ps (length ps) n p refl c.loop-at-test.true c.index-left-at.is)
    (slice_get_read qs (length qs) n q refl within c.index-right-at.is) c.requires
    ∙ ap length (sym c.as_slice-in-loop-at.ensures)

pub loop-at-preserved : goal.loop-at-preserved
loop-at-preserved c =
    let ps = c.args.left.now in
    let qs = c.args.right.now in
    let n = c.loop-at.at in
    let p : PendingShape = c.index-left-at.result in
    let q : PendingShape = c.index-right-at.result in
    let within : n < length qs = omega (arith, c.loop-at-test.true, alike_long ps qs c.requires) in
    let passed : c.in_ok-passed.passed ≡ both p.passed q.passed =
    c.in_ok-passed.ensures
    ∙ ap (λ (fs : List Bool). both fs c.as_slice-in-loop-at.result.now) c.as_slice.ensures
    ∙ ap (both p.passed) c.as_slice-in-loop-at.ensures in
    c.in_ok-push.ensures.ok
    ∙ ap (λ (fs : List Bool). c.loop-at.pending ++ (record p { passed = fs }) ∷ []) passed
    ∙ ap (λ (hs : List PendingShape). hs ++ common_pending p q ∷ []) c.loop-at.invariant
    ∙ sym (zipped_more common_pending ps qs n p q
    (slice_get_read ps (length ps) n p refl c.loop-at-test.true c.index-left-at.is)
    (slice_get_read qs (length qs) n q refl within c.index-right-at.is))

pub returns : goal.returns
returns c =
    c.from_list.ensures
    ∙ ap reverse (c.loop-at.invariant ∙ zipped_all common_pending c.args.left.now c.args.right.now c.loop-at.at
    (omega (arith, c.loop-at-test.false)) (alike_long c.args.left.now c.args.right.now c.requires))
