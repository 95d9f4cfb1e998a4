use Rattle.std.proofs.Common.{subst, arith, ◌-◌}
use Rattle.cat_verify_shapes.specs.inside.Making.{IsParted}
use Rattle.cat_verify_shapes.proofs.RowLemmas.{behind_none, behind_more, at_none, at_first}
use Rattle.cat_verify_shapes.proofs.making.at.Goals as goal

pub loop-init : goal.loop-init
loop-init c =
    let tables = c.args.tables.now in
    let forms = c.args.forms.now in
    behind_none tables forms c.args.row

pub loop-preserved : goal.loop-preserved
loop-preserved c =
    let tables = c.args.tables.now in
    let forms = c.args.forms.now in
    behind_more tables forms c.args.row c.loop.rest c.loop.counter _ c.in-Some.others c.loop.invariant (subst
    (IsParted forms c.loop.rest) c.in-Some.is c.in_ok-others.ensures)

pub returns-in_default : goal.returns-in_default
returns-in_default c =
    let tables = c.args.tables.now in
    let forms = c.args.forms.now in
    at_none tables forms c.args.row c.loop.rest c.loop.counter c.args.index c.loop.invariant (subst (IsParted forms
    c.loop.rest) c.in_default.is c.in_ok-others.ensures) (c.args.index - c.loop.counter) (omega (
      arith,
      c.loop-test.true,
    ))

pub returns-in-Some-2 : goal.returns-in-Some-2
returns-in-Some-2 c =
    let tables = c.args.tables.now in
    let forms = c.args.forms.now in
    at_first tables forms c.args.row c.loop.rest c.loop.counter c.args.index c.in-Some-2.first _ c.loop.invariant
    (subst (IsParted forms c.loop.rest) c.in-Some-2.is c.in_ok-first.ensures) (omega (
      arith,
      c.loop.auto.counter-end,
      c.loop-test.false,
    ))

pub returns-in-None : goal.returns-in-None
returns-in-None c =
    let tables = c.args.tables.now in
    let forms = c.args.forms.now in
    at_none tables forms c.args.row c.loop.rest c.loop.counter c.args.index c.loop.invariant (subst (IsParted forms
    c.loop.rest) c.in-None.is c.in_ok-first.ensures) 0 (omega (arith, c.loop.auto.counter-end, c.loop-test.false))
