use Rattle.std.proofs.Common.{false, true}
use Rattle.cat_verify_shapes.proofs.StepLemmas.{takes_as}
use Rattle.cat_verify_shapes.proofs.ValueSteps.{jump_unlike, jump_so}
use Rattle.cat_verify_shapes.proofs.values.jump_false.Goals as goal

pub returns-then-not-pop_as : goal.returns-then-not-pop_as
returns-then-not-pop_as c =
    let tables = c.args.tables.now in
    let forms = c.args.forms.now in
    let p = c.args.place in
    let s = c.args.shape in
    jump_unlike tables forms p s c.pop_as.new.shape c.in_ok-truth.truth c.args.other c.in_ok-truth.ensures
    (takes_as s c.pop_as.new.shape c.in_ok-truth.truth c.pop_as.result false c.pop_as.ensures c.if-not-pop_as.true)

pub returns : goal.returns
returns c =
    let tables = c.args.tables.now in
    let forms = c.args.forms.now in
    let p = c.args.place in
    let s = c.args.shape in
    jump_so tables forms p s c.pop_as.new.shape c.in_ok-truth.truth c.args.other c.in_ok-both.field-0
    c.in_ok-truth.ensures (takes_as s c.pop_as.new.shape c.in_ok-truth.truth c.pop_as.result true c.pop_as.ensures
    c.if-not-pop_as.false)
    c.in_ok-both.ensures
