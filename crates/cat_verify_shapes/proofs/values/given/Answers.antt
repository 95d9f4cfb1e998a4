use Rattle.std.proofs.Common.{length, arith}
use Rattle.cat_verify_shapes.proofs.StepLemmas.{lt_so, lt_not}
use Rattle.cat_verify_shapes.proofs.ValueSteps.{given_nowhere, given_so}
use Rattle.cat_verify_shapes.proofs.values.given.Goals as goal

pub returns-then-slot-len : goal.returns-then-slot-len
returns-then-slot-len c =
    let tables = c.args.tables.now in
    let forms = c.args.forms.now in
    let p = c.args.place in
    let s = c.args.shape in
    given_nowhere tables forms p s c.args.slot c.args.other (lt_not c.args.slot (length s.filled) (omega (
      arith,
      c.if-slot-len.true,
      c.len.ensures,
    )))

pub returns : goal.returns
returns c =
    let tables = c.args.tables.now in
    let forms = c.args.forms.now in
    let p = c.args.place in
    let s = c.args.shape in
    given_so tables forms p s c.in_ok-filled.filled c.args.slot c.args.other c.mark.new.flags
    (lt_so c.args.slot (length s.filled) (omega (arith, c.if-slot-len.false, c.len.ensures)))
    c.in_ok-filled.ensures c.mark.ensures
