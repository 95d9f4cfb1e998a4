use Rattle.std.proofs.Common.{true, false, length, arith}
use Rattle.cat_verify_shapes.proofs.StepLemmas.{lt_so, lt_not, takes_as}
use Rattle.cat_verify_shapes.proofs.ValueSteps.{assert_nowhere, assert_unlike, assert_so}
use Rattle.cat_verify_shapes.proofs.values.assert.Goals as goal

pub returns-then-position-len : goal.returns-then-position-len
returns-then-position-len c =
    let tables = c.args.tables.now in
    let forms = c.args.forms.now in
    let p = c.args.place in
    let s = c.args.shape in
    assert_nowhere tables forms p s c.args.position (lt_not c.args.position (length tables.positions) (omega
    (arith, c.if-position-len.true, c.len.ensures)))

pub returns-then-not-pop_as : goal.returns-then-not-pop_as
returns-then-not-pop_as c =
    let tables = c.args.tables.now in
    let forms = c.args.forms.now in
    let p = c.args.place in
    let s = c.args.shape in
    assert_unlike tables forms p s c.pop_as.new.shape c.args.position c.in_ok-truth.truth
    (lt_so c.args.position (length tables.positions) (omega (arith, c.if-position-len.false, c.len.ensures)))
    c.in_ok-truth.ensures
    (takes_as s c.pop_as.new.shape c.in_ok-truth.truth c.pop_as.result false c.pop_as.ensures c.if-not-pop_as.true)

pub returns : goal.returns
returns c =
    let tables = c.args.tables.now in
    let forms = c.args.forms.now in
    let p = c.args.place in
    let s = c.args.shape in
    assert_so tables forms p s c.pop_as.new.shape c.args.position c.in_ok-truth.truth
    (lt_so c.args.position (length tables.positions) (omega (arith, c.if-position-len.false, c.len.ensures)))
    c.in_ok-truth.ensures
    (takes_as s c.pop_as.new.shape c.in_ok-truth.truth c.pop_as.result true c.pop_as.ensures c.if-not-pop_as.false)
