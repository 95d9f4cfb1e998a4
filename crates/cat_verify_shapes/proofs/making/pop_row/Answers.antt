use Rattle.std.proofs.Common.{ap, List, arith, ℕ, ◌-◌, ◌+◌}
use Rattle.cat_verify_shapes.proofs.RowLemmas.{row_begins, row_more, row_ends, row_fails}
use Rattle.cat_verify_shapes.proofs.making.pop_row.Goals as goal

pub loop-init : goal.loop-init
loop-init c =
    let tables = c.args.tables.now in
    let forms = c.args.forms.now in
    row_begins tables forms c.args.shape.now c.args.count c.in_ok-row.row c.in_ok-row.ensures

pub loop-preserved : goal.loop-preserved
loop-preserved c =
    let tables = c.args.tables.now in
    let forms = c.args.forms.now in
    row_more tables forms c.args.shape.now c.args.count c.loop.shape (record c.loop.shape {
      operands =
          c.pop.new.self;
    })
    c.loop.counter c.loop.row c.in-Some.form c.in_ok-row-2.row c.loop.invariant
    (ap (λ (ops : List ℕ). record c.loop.shape { operands = ops }) c.in-Some.ensures) c.in_ok-row-2.ensures

pub returns-in_default : goal.returns-in_default
returns-in_default c =
    let tables = c.args.tables.now in
    let forms = c.args.forms.now in
    row_fails tables forms c.args.shape.now c.args.count c.loop.shape (record c.loop.shape {
      operands =
          c.pop.new.self;
    })
    c.loop.counter c.loop.row (c.args.count - (c.loop.counter + 1)) c.loop.invariant (omega (
      arith,
      c.loop-test.true,
    )) c.in_default.ensures.0

pub returns : goal.returns
returns c =
    let tables = c.args.tables.now in
    let forms = c.args.forms.now in
    row_ends tables forms c.args.shape.now c.args.count c.loop.shape c.loop.counter c.loop.row c.loop.invariant
    (omega (arith, c.loop.auto.counter-end, c.loop-test.false))
