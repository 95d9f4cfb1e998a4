use Rattle.std.proofs.Common.{arith, ap, length, refl, ◌∙◌, ◌<◌, sym}
use Rattle.std.proofs.lemmas.Option.{slice_get_read}
use Rattle.cat_verify_shapes.specs.declared.shape.PendingShape.{PendingShape}
use Rattle.cat_verify_shapes.proofs.ListLemmas.{some_is}
use Rattle.cat_verify_shapes.proofs.AlikeTests.{pending_long, pending_unlike, pending_more}
use Rattle.cat_verify_shapes.proofs.alike.same_pending.Goals as goal

pub returns-then-left-right : goal.returns-then-left-right
returns-then-left-right c =
    pending_long c.args.left.now c.args.right.now (λ e. absurd (omega (arith, e, c.if-left-right.true)))

pub returns-then-frame-right : goal.returns-then-frame-right
returns-then-frame-right c =
    let ps = c.args.left.now in
    let qs = c.args.right.now in
    let n = c.loop-at.at in
    let p : PendingShape = c.index-left-at.result in
    let q : PendingShape = c.index-right-at.result in
    let within : n < length qs = omega (arith, c.loop-at-test.true, c.if-left-right.false) in
    pending_unlike ps qs n p q (slice_get_read ps (length ps) n p refl c.loop-at-test.true c.index-left-at.is)
    (slice_get_read qs (length qs) n q refl within c.index-right-at.is)
    (λ scope passed. absurd (omega (
      arith,
      scope,
      c.if-frame-right.true,
      ap (λ (r : PendingShape). r.scope) c.index-left-at.is,
      ap (λ (r : PendingShape). r.scope) c.index-right-at.is,
    )))

pub returns-then-len : goal.returns-then-len
returns-then-len c =
    let ps = c.args.left.now in
    let qs = c.args.right.now in
    let n = c.loop-at.at in
    let p : PendingShape = c.index-left-at.result in
    let q : PendingShape = c.index-right-at-in-loop-at.result in
    let within : n < length qs = omega (arith, c.loop-at-test.true, c.if-left-right.false) in
    pending_unlike ps qs n p q (slice_get_read ps (length ps) n p refl c.loop-at-test.true c.index-left-at.is)
    (slice_get_read qs (length qs) n q refl within c.index-right-at-in-loop-at.is)
    (λ scope passed. absurd (omega (
      arith,
      passed,
      c.if-len.true,
      c.len.ensures,
      c.len-in-loop-at.ensures,
      ap (λ (r : PendingShape). length r.passed) c.index-left-at.is,
      ap (λ (r : PendingShape). length r.passed) c.index-right-at-in-loop-at.is,
    )))

pub loop-at-preserved : goal.loop-at-preserved
loop-at-preserved c =
    let ps = c.args.left.now in
    let qs = c.args.right.now in
    let n = c.loop-at.at in
    let p : PendingShape = c.index-left-at.result in
    let q : PendingShape = c.index-right-at-in-loop-at.result in
    let within : n < length qs = omega (arith, c.loop-at-test.true, c.if-left-right.false) in
    let at = slice_get_read qs (length qs) n q refl within c.index-right-at-in-loop-at.is in
    let same =
    some_is c.index-right-at.result q
    (sym (slice_get_read qs (length qs) n c.index-right-at.result refl within c.index-right-at.is) ∙ at) in
    pending_more ps qs n p q (slice_get_read ps (length ps) n p refl c.loop-at-test.true c.index-left-at.is) at
    c.loop-at.invariant
    (omega (
      arith,
      c.if-frame-right.false,
      ap (λ (r : PendingShape). r.scope) c.index-left-at.is,
      ap (λ (r : PendingShape). r.scope) c.index-right-at.is,
      ap (λ (r : PendingShape). r.scope) same,
    ))
    (omega (
      arith,
      c.if-len.false,
      c.len.ensures,
      c.len-in-loop-at.ensures,
      ap (λ (r : PendingShape). length r.passed) c.index-left-at.is,
      ap (λ (r : PendingShape). length r.passed) c.index-right-at-in-loop-at.is,
    ))
