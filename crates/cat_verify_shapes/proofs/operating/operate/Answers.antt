use Rattle.std.proofs.Common.{length, arith}
use Rattle.cat_verify_shapes.proofs.OperatorSteps.{operate_unrounded, operate_nowhere, operate_unnamed, operate_so}
use Rattle.cat_verify_shapes.proofs.StepLemmas.{lt_so, lt_not}
use Rattle.cat_verify_shapes.proofs.operating.operate.Goals as goal

pub returns-then-rounding-ge-ROUNDINGS : goal.returns-then-rounding-ge-ROUNDINGS
returns-then-rounding-ge-ROUNDINGS c =
    let tables = c.args.tables.now in
    let forms = c.args.forms.now in
    let p = c.args.place in
    let s = c.args.shape in
    operate_unrounded tables forms p s c.args.operator c.args.rounding c.args.position
    (lt_not c.args.rounding 3 c.if-rounding-ge-ROUNDINGS.true)

pub returns-then-position-len : goal.returns-then-position-len
returns-then-position-len c =
    let tables = c.args.tables.now in
    let forms = c.args.forms.now in
    let p = c.args.place in
    let s = c.args.shape in
    operate_nowhere tables forms p s c.args.operator c.args.rounding c.args.position
    (lt_not c.args.position (length tables.positions) (omega (arith, c.if-position-len.true, c.len.ensures)))

pub returns-in-None : goal.returns-in-None
returns-in-None c =
    let tables = c.args.tables.now in
    let forms = c.args.forms.now in
    let p = c.args.place in
    let s = c.args.shape in
    operate_unnamed tables forms p s c.args.operator c.args.rounding c.args.position (lt_so c.args.rounding 3
    c.if-rounding-ge-ROUNDINGS.false)
    (lt_so c.args.position (length tables.positions) (omega (arith, c.if-position-len.false, c.len.ensures)))
    c.in-None.ensures

pub returns-in-Some : goal.returns-in-Some
returns-in-Some c =
    let tables = c.args.tables.now in
    let forms = c.args.forms.now in
    let p = c.args.place in
    let s = c.args.shape in
    operate_so tables forms p c.operated.result s c.args.operator c.args.rounding c.args.position c.in-Some.operator
    (lt_so c.args.rounding 3 c.if-rounding-ge-ROUNDINGS.false) (lt_so c.args.position (length tables.positions)
    (omega (arith, c.if-position-len.false, c.len.ensures))) c.in-Some.ensures c.operated.ensures
